-- An audit that follows a reader.
use Rattle.std.proofs.Common.{◌≡◌, ◌∙◌, ℕ, ◌+◌, ◌^◌, ◌≤◌, ◌<◌, List, [], ◌∷◌, ◌++◌, Option, length, Result, Ok, Err, refl, ap, sym, subst, arith, length-append}
use Rattle.std.specs.Prelude.{IfSome}
use Rattle.std.specs.Io.KnownBytes.{Consumes, IsAtEnd}
use Rattle.std.proofs.KnownBytes.{Consumes-trans, Consumes-whole}
use Rattle.scitt_journal.specs.Layout.{spelled}
use Rattle.log_replay.specs.Records.{Log}
use Rattle.auditor.specs.declared.answers.Read.{Read}
use Rattle.auditor.specs.declared.answers.Read.TheVariants as read
use Rattle.auditor.specs.declared.words.AuditStop.{AuditStop}
use Rattle.auditor.specs.declared.words.AuditStop.TheVariants as audit
use Rattle.auditor.specs.declared.walk.Walk.{Walk}
use Rattle.auditor.specs.declared.walk.Found.{Found}
use Rattle.auditor.specs.Reading.{Audits}
use Rattle.auditor.specs.Streams.{Progress, Takes, seen}
use Rattle.auditor.specs.Walks.{Knows, IsFound}
use Rattle.auditor.proofs.Gates.{five_each, long_push}

abbrev refused : AuditStop → Result Found AuditStop
refused e = Err e

never_refused : (f : Found) (e : AuditStop) → Ok f ≡ Err e → ⊥
never_refused f e is = cc

refusal_is : (e f : AuditStop) → refused e ≡ refused f → e ≡ f
refusal_is e f is = cc

-- no more records than a number of 64 bits halved
pub few_records : (limit : ℕ) (p : Progress) (w : Walk) → limit < 2 ^ 64 → length (seen p) ≤ limit → Knows w p.records → w.number < 2 ^ 63
few_records limit p w fits within knows =
    omega (arith, fits, within, knows.number, five_each p.records, length-append (spelled p.records) p.held)

-- ---- the answer is not a record

pub audits_too_long : (limit : ℕ) (p : Progress) (old mid new : Option (List ℕ)) (held : List ℕ) → p.limit ≡ limit → Consumes old mid (seen p) → Takes p mid new read.TooLong held → Audits limit IsFound old new (Err audit.TooLong)
audits_too_long limit p old mid new held same taken t = record {
  bytes = seen p ++ t.bytes;
  taken = Consumes-trans old mid new (seen p) t.bytes taken t.taken;
  within = omega (arith, t.within, same);
  too_long = (λ _. omega (arith, t.too_long.0 refl, same), λ _. refl);
  says = tt;
}

pub audits_refused : (limit : ℕ) (p : Progress) (old mid new : Option (List ℕ)) (answer : Read) (held : List ℕ) (e : AuditStop) → p.limit ≡ limit → Consumes old mid (seen p) → Takes p mid new answer held
    → (answer ≡ read.TooLong → ⊥) → (e ≡ audit.TooLong → ⊥) → Audits limit IsFound old new (Err e)
audits_refused limit p old mid new answer held e same taken t well other = record {
  bytes = seen p ++ t.bytes;
  taken = Consumes-trans old mid new (seen p) t.bytes taken t.taken;
  within = omega (arith, t.within, same);
  too_long = (λ is. absurd (other (refusal_is e audit.TooLong is)), λ past. absurd (well (t.too_long.1 (past ∙ ap (λ (n : ℕ). n + 1) (sym same)))));
  says = tt;
}

pub audits_found : (limit : ℕ) (p : Progress) (old mid new : Option (List ℕ)) (answer : Read) (held : List ℕ) (f : Found) → p.limit ≡ limit → Consumes old mid (seen p) → (t : Takes p mid new answer held)
    → (answer ≡ read.TooLong → ⊥) → IsFound (seen p ++ t.bytes) f → Audits limit IsFound old new (Ok f)
audits_found limit p old mid new answer held f same taken t well found = record {
  bytes = seen p ++ t.bytes;
  taken = Consumes-trans old mid new (seen p) t.bytes taken t.taken;
  within = omega (arith, t.within, same);
  too_long = (λ is. absurd (never_refused f audit.TooLong is), λ past. absurd (well (t.too_long.1 (past ∙ ap (λ (n : ℕ). n + 1) (sym same)))));
  says = found;
}

-- ---- it is

never_long : (body : List ℕ) → read.Record body ≡ read.TooLong → ⊥
never_long body is = cc

pub seen_more : (p q : Progress) (mid new : Option (List ℕ)) (body : List ℕ) → q.records ≡ p.records ++ body ∷ [] → (t : Takes p mid new (read.Record body) q.held) → seen q ≡ seen p ++ t.bytes
seen_more p q mid new body more t = ap (λ (R : Log). spelled R ++ q.held) more ∙ sym t.says.0

pub taken_more : (p q : Progress) (old mid new : Option (List ℕ)) (body : List ℕ) → q.records ≡ p.records ++ body ∷ [] → Consumes old mid (seen p) → Takes p mid new (read.Record body) q.held → Consumes old new (seen q)
taken_more p q old mid new body more taken t =
    subst (λ (bytes : List ℕ). Consumes old new bytes) (sym (seen_more p q mid new body more t)) (Consumes-trans old mid new (seen p) t.bytes taken t.taken)

pub within_more : (limit : ℕ) (p q : Progress) (mid new : Option (List ℕ)) (body : List ℕ) → p.limit ≡ limit → q.records ≡ p.records ++ body ∷ [] → Takes p mid new (read.Record body) q.held → length (seen q) ≤ limit
within_more limit p q mid new body same more t =
    let not_past : length (seen p ++ t.bytes) ≡ p.limit + 1 → ⊥ = λ past. never_long body (t.too_long.1 past) in
    omega (arith, t.within, not_past, same, ap length (seen_more p q mid new body more t))

pub longer : (p q : Progress) (body : List ℕ) → q.records ≡ p.records ++ body ∷ [] → length p.held ≤ 1 → length (seen p) < length (seen q)
longer p q body more short =
    omega (arith, short, ap (λ (R : Log). length (spelled R)) more, long_push p.records body, length-append (spelled p.records) p.held, length-append (spelled q.records) q.held)

-- a refusal after a record
pub audits_stopped : (limit : ℕ) (p q : Progress) (old mid new : Option (List ℕ)) (body : List ℕ) (e : AuditStop) → p.limit ≡ limit → q.records ≡ p.records ++ body ∷ [] → Consumes old mid (seen p)
    → Takes p mid new (read.Record body) q.held → (e ≡ audit.TooLong → ⊥) → Audits limit IsFound old new (Err e)
audits_stopped limit p q old mid new body e same more taken t other =
    audits_refused limit p old mid new (read.Record body) q.held e same taken t (never_long body) other

-- ---- what is said of what was found

never_told : (T : Type 0) (x : T) (e : AuditStop) → Ok x ≡ Err e → ⊥
never_told T x e is = cc

abbrev told : (T : Type 0) → AuditStop → Result T AuditStop
told T e = Err e

told_is : (T : Type 0) (e f : AuditStop) → told T e ≡ told T f → e ≡ f
told_is T e f is = cc

pub audits_said : {T U : Type 0} (limit : ℕ) (Is : List ℕ → T → Type 0) (Says : List ℕ → U → Type 0) (old new : Option (List ℕ)) (x : T) (y : U) → Audits limit Is old new (Ok x)
    → ((bytes : List ℕ) → Is bytes x → Says bytes y) → Audits limit Says old new (Ok y)
audits_said {T} {U} limit Is Says old new x y a says = record {
  bytes = a.bytes;
  taken = a.taken;
  within = a.within;
  too_long = (λ is. absurd (never_told U y audit.TooLong is), λ past. absurd (never_told T x audit.TooLong (a.too_long.1 past)));
  says = says a.bytes a.says;
}

pub audits_not : {T U : Type 0} (limit : ℕ) (Is : List ℕ → T → Type 0) (Says : List ℕ → U → Type 0) (old new : Option (List ℕ)) (e : AuditStop) → Audits {T = T} limit Is old new (Err e) → Audits {T = U} limit Says old new (Err e)
audits_not {T} {U} limit Is Says old new e a = record {
  bytes = a.bytes;
  taken = a.taken;
  within = a.within;
  too_long = (λ is. a.too_long.0 (ap (told T) (told_is U e audit.TooLong is)), λ past. ap (told U) (told_is T e audit.TooLong (a.too_long.1 past)));
  says = tt;
}

-- it is said of all that was left, where that is told
pub said_of_all : {T U : Type 0} (limit : ℕ) (Is : List ℕ → T → Type 0) (Says : List ℕ → U → Type 0) (old new : Option (List ℕ)) (x : T) (y : U) → Audits limit Is old new (Ok x)
    → ((bytes : List ℕ) → Is bytes x → Says bytes y) → IsAtEnd new → IfSome old (λ left. Says left y)
said_of_all limit Is Says old new x y a says end =
    Consumes-whole old new a.bytes (λ (left : List ℕ). Says left y) a.taken end (says a.bytes a.says)

-- ---- answers that aren't about the length

pub fault_not_long : (read.ReadFault ≡ read.TooLong → ⊥) × (audit.ReadFault ≡ audit.TooLong → ⊥)
fault_not_long = (λ is. cc, λ is. cc)

pub memory_not_long : (read.OutOfMemory ≡ read.TooLong → ⊥) × (audit.OutOfMemory ≡ audit.TooLong → ⊥)
memory_not_long = (λ is. cc, λ is. cc)
