use Rattle.lms_tree.proofs.SignatureLaws.{length-child_id, length-lms_public, level_at-lms_public, length-lms_sig, has_types-lms_sig, leaf-lms_sig, verifies}
use Rattle.lms_tree.proofs.laws.lms_law.Goals as goal

pub returns : goal.returns
returns c =
    let words = c.word_law.ensures in
    let one_time = c.ots_law.ensures in
    record {
      len = λ level id seed q msg named below. length-lms_sig words one_time level id seed named q below msg;
      types = λ level id seed q msg named below. has_types-lms_sig words one_time level id seed named q below msg;
      leaf = λ level id seed q msg named below. leaf-lms_sig words one_time level id seed named q below msg;
      public_len = length-lms_public words one_time;
      known = level_at-lms_public words one_time;
      verifies = λ level id seed q msg named below. verifies words one_time level id seed named q below msg;
      child_len = length-child_id words one_time;
    }
