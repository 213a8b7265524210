-- What there is to answer to `audit`, whose file is read a record at a time.
use Rattle.std.proofs.Common.{◌≡◌, ◌≤◌, ◌<◌, ◌+◌, ℕ, List, [], ◌∷◌, ◌++◌, length, Option, Some, None, Result, Ok, Err, OnOk, IfOk, IfSome, inl, inr, refl, sym, ap, ◌∙◌, subst, arith, length-append, append-nil}
use Rattle.std.specs.Prelude.{codes}
use Rattle.std.specs.Fmt.{digits, decimal}
use Rattle.std.specs.Io.KnownBytes.{Consumes, IsAtEnd}
use Rattle.scitt_io.specs.Files.{ReadsFile}
use Rattle.scitt_io.specs.declared.source.ReadStop.{ReadStop}
use Rattle.scitt_io.specs.declared.source.ReadStop.TheVariants.{TooLong}
use Rattle.auditor.specs.Reading.{Audits}
use Rattle.auditor.specs.Reports.{Reports}
use Rattle.auditor.specs.declared.words.AuditStop.{AuditStop}
use Rattle.auditor.specs.declared.words.AuditStop.TheVariants as audit
use Rattle.auditor.specs.declared.words.Report.{Report}
use Rattle.auditor.specs.declared.words.Report.TheVariants as report
use Rattle.scitt_tool.specs.Answer.{Answer, line}
use Rattle.scitt_tool.specs.Audit.{report_answer, log_limit, AuditedOf, AuditsFile, IsReported, IsPast}
use Rattle.scitt_tool.specs.Command.{Audit, command_of}
use Rattle.scitt_tool.specs.Reads.{FileOf, TellsFile, TellsFiles, StopsAt}
use Rattle.scitt_tool.specs.Run.{Counts, Outside, JudgedOver, IsDue}
use Rattle.scitt_tool.proofs.Dues.{plain_over, due_ok, due_too_long, due_unread}

-- ---- what the named file gives

-- some content is the one that is told, where files are told
pub some_content : (told : Option FileOf) (name : List ℕ) → (content : Option (List ℕ)) × TellsFile told name content
some_content None name = (None, tt)
some_content (Some file_of) name = (file_of name, refl)

-- the bytes taken are all that was left
all_taken : (left taken : List ℕ) (new : Option (List ℕ)) → Consumes (Some left) new taken → IsAtEnd new → left ≡ taken
all_taken left taken None gone end = absurd gone
all_taken left taken (Some rest) is end = is ∙ ap (λ (more : List ℕ). taken ++ more) end ∙ append-nil taken

some_left : (left taken : List ℕ) (new : Option (List ℕ)) → Consumes (Some left) new taken → length taken ≤ length left
some_left left taken None gone = absurd gone
some_left left taken (Some rest) is = rw is (omega (arith, length-append taken rest))

short_enough : (limit : ℕ) (left new : Option (List ℕ)) (report : Report) (audits : Audits limit Reports left new (Ok report)) → length audits.bytes ≤ limit
short_enough limit left new report audits =
    let apart : length audits.bytes ≡ limit + 1 → ⊥ = λ e. let same : ◌≡◌ {A = Result Report AuditStop} (Ok report) (Err audit.TooLong) = audits.too_long.1 e in cc in
    omega (arith, audits.within, apart)

pub audit_tells : (limit : ℕ) (told : Option FileOf) (name : List ℕ) (left new : Option (List ℕ)) (report : Report) → IfSome told (λ file_of. ReadsFile (file_of name) left)
    → Audits limit Reports left new (Ok report) → IsAtEnd new → (content : Option (List ℕ)) × TellsFile told name content × AuditedOf limit content (Ok report)
audit_tells limit None name left new report chosen audits end =
    (Some audits.bytes, tt, (audits.bytes, refl, short_enough limit left new report audits, audits.says))
audit_tells limit (Some file_of) name left new report chosen audits end =
    let whole : chosen.bytes ≡ audits.bytes = all_taken chosen.bytes audits.bytes new (rw chosen.opened at audits.taken) end in
    (file_of name, refl, (audits.bytes, chosen.found ∙ ap Some whole, short_enough limit left new report audits, audits.says))

pub audit_passes : (limit : ℕ) (told : Option FileOf) (name : List ℕ) (left new : Option (List ℕ)) → IfSome told (λ file_of. ReadsFile (file_of name) left)
    → Audits limit Reports left new (Err audit.TooLong) → (content : Option (List ℕ)) × TellsFile told name content × AuditedOf limit content (Err TooLong)
audit_passes limit None name left new chosen audits =
    (Some audits.bytes, tt, (audits.bytes, refl, omega (arith, audits.too_long.0 refl)))
audit_passes limit (Some file_of) name left new chosen audits =
    let more = some_left chosen.bytes audits.bytes new (rw chosen.opened at audits.taken) in
    (file_of name, refl, (chosen.bytes, chosen.found, omega (arith, audits.too_long.0 refl, more)))

pub is_too_long : (limit : ℕ) (left new : Option (List ℕ)) (e : AuditStop) → e ≡ audit.TooLong → Audits {T = Report} limit Reports left new (Err e) → Audits {T = Report} limit Reports left new (Err audit.TooLong)
is_too_long limit left new e is audits = subst (λ (x : AuditStop). Audits {T = Report} limit Reports left new (Err x)) is audits

-- how the limit of a log's file is printed
pub long_log : line (codes "too long " ++ decimal 3221225472) ≡ codes "too long 3221225472\n"
unfolding digits
long_log = refl

-- ---- what is due

report_status : (report : Report) → (report_answer report).status ≤ 1
report_status (report.Clean records entries rest root) = omega arith
report_status (report.Bad number why recorded found) = omega arith
report_status report.NoLog = omega arith
report_status (report.Short at) = omega arith

tells_one : (told : Option FileOf) (name : List ℕ) (content : Option (List ℕ)) → TellsFile told name content → TellsFiles told (name ∷ []) (content ∷ [])
tells_one None name content tells = tt
tells_one (Some file_of) name content tells = ap (λ (c : Option (List ℕ)). c ∷ []) tells

module _ (Tells : Type 0) (outside : Outside) (words : List (List ℕ)) (file : List ℕ) (before now : Counts) (some : command_of words ≡ Some (Audit file)) (held : outside.new ≡ outside.old) (random : now.random ≡ before.random) (key : now.key ≡ before.key) where
  due_reported : (answer : Answer) → IsReported outside.files file before.files now.files answer → IsDue Tells outside words before now answer
  due_reported answer r =
      let bytes = r.audited.0 in
      let over : JudgedOver Tells outside.old outside.new outside.random (Audit file) (bytes ∷ []) answer =
      rw held (plain_over Tells outside.old outside.random (Audit file) (bytes ∷ []) answer (λ key_bytes random_bytes. (record { report = r.report; says = r.audited.3; is = r.is }, refl))) in
      due_ok Tells outside words (Audit file) before now some (r.content ∷ []) (bytes ∷ []) answer (tells_one outside.files file r.content r.tells) (λ empty. cc) (ap (λ (c : Option (List ℕ)). c ∷ []) r.audited.1, (r.audited.2, tt)) over
      (inl (rw r.is (report_status r.report))) r.calm random key

  due_past : (answer : Answer) → IsPast outside.files file before.files now.files answer → IsDue Tells outside words before now answer
  due_past answer p =
      let stop : StopsAt log_limit (p.content ∷ []) = subst (λ (c : Option (List ℕ)). StopsAt log_limit (c ∷ [])) (sym p.longer.1) (inr p.longer.2) in
      due_too_long Tells outside words (Audit file) (p.content ∷ []) before now answer some (tells_one outside.files file p.content p.tells) (λ empty. cc) stop held p.calm random key p.is

  pub due_audit : (answer : Answer) → AuditsFile outside.files file before.files now.files answer → IsDue Tells outside words before now answer
  due_audit answer (inl reported) = due_reported answer reported
  due_audit answer (inr (inl past)) = due_past answer past
  due_audit answer (inr (inr fault)) = due_unread Tells outside words (Audit file) before now some answer fault.0 fault.1 key

  -- the same of what `audit` gives
  pub due_audited : {E : Type 0} (result : Result Answer E) → IfOk result (AuditsFile outside.files file before.files now.files) → IfOk result (IsDue Tells outside words before now)
  due_audited (Ok answer) audits = due_audit answer audits
  due_audited (Err e) audits = tt
