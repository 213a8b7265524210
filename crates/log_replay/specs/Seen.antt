-- The code's values as the words of the log have them.
use Rattle.std.specs.Prelude.{Bool, true, false}
use Rattle.statement.specs.declared.stops.ParseStop.{ParseStop}
use Rattle.statement.specs.declared.stops.ParseStop.TheVariants.{OutOfMemory}
use Rattle.statement.specs.Said.{said_of}
use Rattle.log_replay.specs.declared.parts.Header.{Header}
use Rattle.log_replay.specs.declared.parts.Heading as of_heading
use Rattle.log_replay.specs.declared.parts.Record as of_record
use Rattle.log_replay.specs.declared.parts.Record.TheVariants as read
use Rattle.log_replay.specs.declared.parts.Entry as of_entry
use Rattle.log_replay.specs.Records.{Record, header_record, reserve_record, batch_record, Entry}

abbrev pub heading_seen : of_heading.Heading → Header
heading_seen h = record { name = h.name; governor = h.governor; key = h.key; levels = h.levels; max_entries = h.max_entries; block = h.block }

abbrev pub record_seen : of_record.Record → Record
record_seen (read.Head h) = header_record (heading_seen h)
record_seen (read.Reserve upto) = reserve_record upto
record_seen (read.Entries b) = batch_record b

abbrev pub entry_seen : of_entry.Entry → Entry
entry_seen e = record { at = e.at; rule = e.rule; statement = said_of e.statement }

-- the parser stopped for want of memory
abbrev pub wants_memory : ParseStop → Bool
wants_memory OutOfMemory = true
wants_memory _ = false
