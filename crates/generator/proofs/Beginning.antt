-- The log that is begun holds no statement yet.
use Rattle.std.proofs.Common.{◌≡◌, ℕ, ◌≤◌, List, [], ◌∷◌, Bool, true, false, ◌&&◌, Option, None, Some, length, refl, sym, ap, ◌∙◌, subst, arith}
use Rattle.std.specs.Prelude.{flat_map, filter_map}
use Rattle.std.specs.List.{cons_option}
use Rattle.std.proofs.lemmas.Bool.{and_from, le-leb}
use Rattle.log_replay.specs.declared.parts.Header.{Header}
use Rattle.log_replay.specs.Records.{header_record, record_of, header_of, header_first, leaves_of, entries_in, entries_of, entry_of}
use Rattle.log_replay.specs.WellMade.{is_within, is_within_limits}
use Rattle.registrar.specs.declared.words.Params.{Params}
use Rattle.registrar.specs.declared.words.RegistrarStop.{RegistrarStop}
use Rattle.registrar.specs.declared.words.RegistrarStop.TheVariants.{BadParams, LogExists, NoLog, Short, BadLog, WrongKey, DiskFault, OutOfMemory}
use Rattle.registrar.specs.Opening.{header_with, header_bytes, begun, ExplainsBegin}
use Rattle.registrar.specs.Turns.{Standing, IsSound}
use Rattle.scitt_draft.specs.Named.{seed_of, id_of, IsShort}
use Rattle.scitt_draft.specs.Stated.{governor_holder}
use Rattle.generator.specs.Tallies.{Holds, header, nothing, params, service}

header_alone : (body : List ℕ) (h : Header) → record_of body ≡ Some (header_record h) → header_of (body ∷ []) ≡ Some h
header_alone body h reads = ap (λ o. header_first (cons_option o [])) reads

no_leaves : (body : List ℕ) (h : Header) → record_of body ≡ Some (header_record h) → leaves_of (body ∷ []) ≡ []
no_leaves body h reads = ap (λ o. flat_map entries_in (cons_option o [])) reads

begun_of : (S : Standing) (h : Header) → h ≡ header → S ≡ begun h → record_of (header_bytes h) ≡ Some (header_record h) → IsSound S → Holds nothing S
begun_of S h is begins reads sound =
    let log = ap (λ (T : Standing). T.log) begins in
    let leaves = no_leaves (header_bytes h) h reads in
    record {
      sound = sound;
      headed = ap header_of log ∙ header_alone (header_bytes h) h reads ∙ ap Some is;
      entries = ap entries_of log ∙ ap (filter_map entry_of) leaves;
      leaves = ap leaves_of log ∙ leaves;
      next = ap (λ (T : Standing). T.next) begins;
      pending = ap (λ (T : Standing). T.pending) begins;
      bytes = omega arith;
    }

is_header : (p : Params) (id seed : List ℕ) → p ≡ params → id ≡ id_of service → seed ≡ seed_of service → header_with p id seed ≡ header
unfolding header
is_header p id seed a b c = λ i. header_with (a i) (b i) (c i)

pub begun_holds : (p : Params) (id seed : List ℕ) (S : Standing) → p ≡ params → id ≡ id_of service → seed ≡ seed_of service → S ≡ begun (header_with p id seed)
    → record_of (header_bytes (header_with p id seed)) ≡ Some (header_record (header_with p id seed)) → IsSound S → Holds nothing S
begun_holds p id seed S a b c begins reads sound = begun_of S (header_with p id seed) (is_header p id seed a b c) begins reads sound

-- ---- why it isn't refused

limits_by : (b : Bool) → b ≡ true → (true && true && b && true && true && true && true) ≡ true
limits_by true e = refl
limits_by false e = cc

limits : IsShort governor_holder → is_within_limits header ≡ true
unfolding header
limits short =
    limits_by (is_within 1 64 (length governor_holder.kid))
    (and_from _ _ (le-leb 1 (length governor_holder.kid) short.named) (le-leb (length governor_holder.kid) 64 short.kid))

refused_by : (Tells : Type 0) (h : Header) (bytes : List ℕ) (before now : ℕ) (why : RegistrarStop) → Tells → is_within_limits h ≡ true → bytes ≡ []
    → (why ≡ DiskFault → ⊥) → (why ≡ OutOfMemory → ⊥) → ExplainsBegin Tells h bytes before now why → ⊥
refused_by Tells h bytes before now BadParams tells within empty a b says =
    let no = says.0 in
    cc
refused_by Tells h bytes before now LogExists tells within empty a b says =
    let six = (says.1 tells).0 in
    let none = ap length empty in
    omega (arith, six, none)
refused_by Tells h bytes before now DiskFault tells within empty a b says = a refl
refused_by Tells h bytes before now OutOfMemory tells within empty a b says = b refl
refused_by Tells h bytes before now NoLog tells within empty a b says = says
refused_by Tells h bytes before now (Short at) tells within empty a b says = says
refused_by Tells h bytes before now (BadLog number why) tells within empty a b says = says
refused_by Tells h bytes before now (WrongKey kept derived) tells within empty a b says = says

pub never_refused : (Tells : Type 0) (p : Params) (id seed bytes : List ℕ) (before now : ℕ) (why : RegistrarStop) → p ≡ params → id ≡ id_of service → seed ≡ seed_of service
    → IsShort governor_holder → Tells → bytes ≡ [] → (why ≡ DiskFault → ⊥) → (why ≡ OutOfMemory → ⊥) → ExplainsBegin Tells (header_with p id seed) bytes before now why → ⊥
never_refused Tells p id seed bytes before now why a b c short tells empty d e says =
    refused_by Tells (header_with p id seed) bytes before now why tells (ap is_within_limits (is_header p id seed a b c) ∙ limits short) empty d e says
