-- `generate`: a log of stated statements, and what is told of it.
use Rattle.std.specs.Prelude.{◌≡◌, ℕ, ◌++◌, List, Option, Some, None, option_and_then, nat_le, if◌then◌else◌, codes}
use Rattle.std.specs.Fmt.{decimal}
use Rattle.hex.specs.Hex.{encode_lower}
use Rattle.generator.specs.declared.generating.Summary.{Summary}
use Rattle.generator.specs.Tallies.{IsSummary}
use Rattle.scitt_tool.specs.Answer.{Answer, line, done}
use Rattle.scitt_tool.specs.Numbers.{number_upto}

abbrev pub at_least_one : ℕ → Option ℕ
at_least_one n = if nat_le 1 n then Some n else None

-- the number of statements that a word says, 1 to 2,000
abbrev pub count_named : List ℕ → Option ℕ
count_named text = option_and_then at_least_one (number_upto 2000 text)

-- the lines for the log of so many statements
abbrev pub summary_lines : ℕ → Summary → List ℕ
summary_lines count s =
    line (codes "statements " ++ decimal count) ++ line (codes "admitted " ++ decimal s.admitted) ++ line (codes "denied " ++ decimal s.denied)
    ++ line (codes "entries " ++ decimal s.entries) ++ line (codes "root " ++ encode_lower s.root) ++ line (codes "audit clean")

-- the answer: the numbers and the root of the log of so many stated statements, as the judgement has them
pub record GenerateOf (count : ℕ) (answer : Answer) : Type 0 where
  pub summary : Summary
  pub told : IsSummary count summary
  pub is : answer ≡ done (summary_lines count summary)
