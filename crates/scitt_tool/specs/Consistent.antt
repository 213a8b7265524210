-- `consistent`: what a relying party that has an older root answers of a consistency receipt.
use Rattle.std.specs.Prelude.{◌≡◌, ◌⊎◌, ℕ, ◌++◌, List, Option, codes}
use Rattle.std.specs.Result.{result_ok}
use Rattle.std.specs.Fmt.{decimal}
use Rattle.hex.specs.Hex.{decode_sized, encode_lower}
use Rattle.relying_party.specs.declared.trust.Trust.{Trust}
use Rattle.relying_party.specs.declared.answers.ConsistencyResult.{ConsistencyResult}
use Rattle.relying_party.specs.declared.answers.ConsistencyResult.TheVariants.{Consistent, Refused}
use Rattle.relying_party.specs.TrustFiles.{TrustOf}
use Rattle.relying_party.specs.Growth.{AcceptsConsistency}
use Rattle.scitt_tool.specs.Answer.{Answer, line, done, refused}
use Rattle.scitt_tool.specs.Numbers.{number_upto}
use Rattle.scitt_tool.specs.Verify.{TrustsNone}

-- the size that a word says, at most 4,294,967,295
abbrev pub size_named : List ℕ → Option ℕ
size_named text = number_upto 4294967295 text

-- the root that a word says: 64 hexadecimal digits of either case
abbrev pub root_named : List ℕ → Option (List ℕ)
root_named text = result_ok (decode_sized text 32)

abbrev pub growth_text : ℕ → List ℕ → List ℕ
growth_text size root = decimal size ++ codes " " ++ encode_lower root

-- the newer size and root, or the first rule that fails
abbrev pub result_answer : ConsistencyResult → Answer
result_answer (Consistent size root) = done (line (codes "consistent " ++ growth_text size root))
result_answer (Refused rule) = refused (codes "refused rule " ++ decimal rule)

-- the bytes are a trust file, and this is the answer to the receipt after the older size and root
pub record GivesResult (bytes receipt : List ℕ) (size : ℕ) (root : List ℕ) (answer : Answer) : Type 0 where
  pub trust : Trust
  pub trusted : TrustOf bytes trust
  pub result : ConsistencyResult
  pub accepts : AcceptsConsistency trust receipt size root result
  pub is : answer ≡ result_answer result

-- the answer by the bytes of a trust file and of a receipt, and the older size and root
abbrev pub ConsistentOf : List ℕ → List ℕ → ℕ → List ℕ → Answer → Type 0
ConsistentOf bytes receipt size root answer = TrustsNone bytes answer ⊎ GivesResult bytes receipt size root answer
