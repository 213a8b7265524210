-- A statement to which a receipt was attached is the same statement with one receipt more.
use Rattle.std.specs.Prelude.{◌≡◌, ℕ, List, [], ◌∷◌, ◌++◌, Ok}
use Rattle.cose_sign1.specs.Attached.{Attaches}
use Rattle.statement.specs.declared.statement_type.Statement.{Statement}
use Rattle.statement.specs.Parsed.{said, StatementOf}

-- what it says, its logged form and its id stay, and the new receipt stands behind those that were there
pub record IsSameWith (receipt : List ℕ) (s t : Statement) : Type 0 where
  pub says : said t ≡ said s
  pub logged : t.logged ≡ s.logged
  pub id : t.id ≡ s.id
  pub receipts : t.receipts ≡ s.receipts ++ receipt ∷ []

abbrev pub AttachedIsSame : Type 0
AttachedIsSame = (bytes receipt attached : List ℕ) (s : Statement) → StatementOf bytes s → Attaches bytes receipt (Ok attached) → (t : Statement) × StatementOf attached t × IsSameWith receipt s t
