use Rattle.lms_ots.proofs.JoinedLaws.{joined_none, joined_more}
use Rattle.lms_ots.proofs.PartLaws.{length-u32str, u32_at-u32str, u32_at-behind, u32_at-within, length-part, part_whole, part-behind, part-middle, length-joined, part-joined}
use Rattle.lms_ots.proofs.laws.word_law.Goals as goal

pub returns : goal.returns
returns c = record {
  word_len = length-u32str;
  word_first = u32_at-u32str;
  word_behind = u32_at-behind;
  word_within = u32_at-within;
  part_len = length-part;
  part_whole = part_whole;
  part_behind = part-behind;
  part_middle = part-middle;
  joined_none = joined_none;
  joined_more = joined_more;
  joined_len = length-joined;
  joined_part = part-joined;
}
