use Rattle.std.proofs.Common.{◌≡◌, ◌-◌, ◌≤◌, ◌⊎◌, ◌++◌, map, Some, length, take, is_some}
use Rattle.std.specs.Io.KnownBytes.{IsAtEnd}
use Rattle.scitt_tool.specs.Command.{files_of, limit_of}
use Rattle.scitt_tool.specs.Meaning.{meaning, all_read}
use Rattle.scitt_tool.specs.Reads.{TellsFiles, AllWithin}
use Rattle.scitt_tool.proofs.file.read_files.Given as goal

abbrev pub invariant-loop-name : goal.invariant-loop-name
invariant-loop-name g l = record {
  within : length l.read.items ≤ length (files_of (meaning l.command));
  told : TellsFiles (g.F.Folder.files l.fn.files) (take (length l.read.items) (files_of (meaning l.command))) (map Some (all_read l.read.items));
  short : AllWithin (limit_of (meaning l.command)) (all_read l.read.items);
  asked : g.F.Folder.asked l.files ≡ g.F.Folder.asked l.fn.files ++ take (length l.read.items) (files_of (meaning l.command));
  end : (length l.read.items ≡ 0) ⊎ IsAtEnd (g.F.Source.left l.files);
  calm : g.F.Source.faults l.files ≡ g.F.Source.faults l.fn.files;
  kept : g.F.Folder.files l.files ≡ g.F.Folder.files l.fn.files;
  telling : is_some (g.F.Source.left l.files) ≡ is_some (g.F.Source.left l.fn.files);
}

abbrev pub decreases-loop-name : goal.decreases-loop-name
decreases-loop-name g l = length (files_of (meaning l.command)) - length l.read.items
