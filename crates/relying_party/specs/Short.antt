-- How long a statement's strings may be.
use Rattle.std.specs.Prelude.{◌≤◌, length}
use Rattle.cbor_core.specs.Limits.{longest_string}
use Rattle.statement.specs.declared.statement_type.Statement.{Statement}
use Rattle.statement.specs.Statements.{most_logged}

-- its protected string and its payload fit a Sig_structure, and its logged form is one
pub record IsShort (s : Statement) : Type 0 where
  pub protected : length s.protected ≤ longest_string
  pub payload : length s.payload ≤ longest_string
  pub logged : length s.logged ≤ most_logged
