-- What the code's commands mean.
use Rattle.std.specs.Prelude.{ℕ, List, map}
use Rattle.std.specs.Global.{Vec}
use Rattle.scitt_tool.specs.declared.command.Command.{Command as Read}
use Rattle.scitt_tool.specs.declared.command.Command.TheVariants.{Root as ReadRoot, Show as ReadShow, Policy as ReadPolicy, Audit as ReadAudit, Replay as ReadReplay, Generate as ReadGenerate, Keygen as ReadKeygen, Sign as ReadSign, Attach as ReadAttach, Verify as ReadVerify, Consistent as ReadConsistent}
use Rattle.scitt_draft.specs.Drafts.{claimed}
use Rattle.scitt_tool.specs.Command.{Command, Root, Show, Policy, Audit, Replay, Generate, Keygen, Sign, Attach, Verify, Consistent}

abbrev pub meaning : Read → Command
meaning (ReadRoot file) = Root file.now
meaning (ReadShow file) = Show file.now
meaning (ReadPolicy file) = Policy file.now
meaning (ReadAudit file) = Audit file.now
meaning (ReadReplay file) = Replay file.now
meaning (ReadGenerate count) = Generate count
meaning (ReadKeygen levels) = Keygen levels
meaning (ReadSign claims file) = Sign (claimed claims) file.now
meaning (ReadAttach statement receipt) = Attach statement.now receipt.now
meaning (ReadVerify trust statement) = Verify trust.now statement.now
meaning (ReadConsistent trust receipt size root) = Consistent trust.now receipt.now size root

-- what was read of files
abbrev pub all_read : List (Vec ℕ) → List (List ℕ)
all_read read = map (λ (v : Vec ℕ). v.items) read
