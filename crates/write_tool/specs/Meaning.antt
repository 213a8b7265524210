-- What the code's commands mean.
use Rattle.write_tool.specs.declared.command.Command.{Command as Read}
use Rattle.write_tool.specs.Command.{Command}

abbrev pub meaning : Read → Command
meaning c = record { task = c.task; file = c.file.now }
