-- A log of a header alone.
use Rattle.std.proofs.Common.{◌≡◌, ◌⊎◌, ℕ, ◌≤◌, true, false, Bool, ◌||◌, ◌&&◌, ◌==◌, List, [], ◌∷◌, Option, None, Some, inl, inr, refl, sym, ap, ◌∙◌, subst, length, get_or, arith}
use Rattle.std.specs.Prelude.{fold}
use Rattle.std.specs.List.{list_all, cons_option}
use Rattle.std.proofs.lemmas.Bool.{eq-eqb, and_from, le-leb}
use Rattle.std.proofs.lemmas.List.Sums.{list_all-from_AllPass}
use Rattle.lms_tree.specs.declared.types.Level.{Level}
use Rattle.lms_tree.specs.Types.{height}
use Rattle.hss_keys.specs.Levels.{CanSign, IsLevels}
use Rattle.hss_keys.specs.Signers.{SignerKey}
use Rattle.log_replay.specs.declared.state.State.{State}
use Rattle.log_replay.specs.declared.parts.Header.{Header}
use Rattle.log_replay.specs.Records.{Log, header_record, record_of, header_of, header_first, used_of, used_after}
use Rattle.log_replay.specs.StateSeen.{StandsFor}
use Rattle.log_replay.specs.WellMade.{WellMade, is_within, is_within_limits, is_signing_level}
use Rattle.scitt_journal.specs.declared.stops.CreateStop.{CreateStop}
use Rattle.scitt_journal.specs.declared.stops.CreateStop.TheVariants as of_create
use Rattle.scitt_journal.specs.Stops.{ExplainsCreate}
use Rattle.registrar.specs.declared.words.Params.{Params}
use Rattle.registrar.specs.declared.words.RegistrarStop.{RegistrarStop}
use Rattle.registrar.specs.declared.words.RegistrarStop.TheVariants.{BadParams, LogExists, NoLog, Short, BadLog, WrongKey, DiskFault, OutOfMemory}
use Rattle.registrar.specs.Fits.{Fits, IsHeaded}
use Rattle.registrar.specs.Opening.{header_with, made_stop, ExplainsBegin, ExplainsSigner, ExplainsLog, HasOtherKey}

-- ---- the levels of a key that signs

either : (a b : Bool) → (a ≡ true) ⊎ (b ≡ true) → (a || b) ≡ true
either true b e = refl
either false b (inl e) = cc
either false b (inr e) = e

signs : (level : Level) → CanSign level → is_signing_level level ≡ true
signs level (inl five) = either (height level == 5) (height level == 10) (inl (eq-eqb (height level) 5 five))
signs level (inr ten) = either (height level == 5) (height level == 10) (inr (eq-eqb (height level) 10 ten))

pub all_sign : (levels : List Level) → IsLevels levels → list_all is_signing_level levels ≡ true
all_sign levels are = list_all-from_AllPass is_signing_level levels (λ k d below. signs (get_or levels k d) (are.each k d below))

behind : (x d e f g : Bool) → d ≡ true → e ≡ true → (x && f && g) ≡ (x && d && e && f && g)
behind true d e f g p q = rw (p, q) refl
behind false d e f g p q = refl

-- the limits but for those of the levels, which a key that signs keeps
pub limits_are : (h : Header) (name iss kid : List ℕ) → IsLevels h.levels → name ≡ h.name → iss ≡ h.governor.iss → kid ≡ h.governor.kid →
    (is_within 1 128 (length name) && is_within 1 1024 (length iss) && is_within 1 64 (length kid) && is_within 1 65536 h.max_entries && is_within 1 64 h.block) ≡ is_within_limits h
limits_are h name iss kid are n i k =
    let number : is_within 1 3 (length h.levels) ≡ true = and_from _ _ (le-leb 1 (length h.levels) are.some) (le-leb (length h.levels) 3 are.most) in
    ap (λ (x : List ℕ). is_within 1 128 (length x) && is_within 1 1024 (length iss) && is_within 1 64 (length kid) && is_within 1 65536 h.max_entries && is_within 1 64 h.block) n
    ∙ ap (λ (x : List ℕ). is_within 1 128 (length h.name) && is_within 1 1024 (length x) && is_within 1 64 (length kid) && is_within 1 65536 h.max_entries && is_within 1 64 h.block) i
    ∙ ap (λ (x : List ℕ). is_within 1 128 (length h.name) && is_within 1 1024 (length h.governor.iss) && is_within 1 64 (length x) && is_within 1 65536 h.max_entries && is_within 1 64 h.block) k
    ∙ behind (is_within 1 128 (length h.name) && is_within 1 1024 (length h.governor.iss) && is_within 1 64 (length h.governor.kid)) (is_within 1 3 (length h.levels)) (list_all is_signing_level h.levels) (is_within 1 65536 h.max_entries) (is_within 1 64 h.block) number (all_sign h.levels are)

-- ---- what the log of a header alone says

pub header_alone : (body : List ℕ) (h : Header) → record_of body ≡ Some (header_record h) → header_of (body ∷ []) ≡ Some h
header_alone body h reads = ap (λ o. header_first (cons_option o [])) reads

pub none_used : (body : List ℕ) (h : Header) → record_of body ≡ Some (header_record h) → used_of (body ∷ []) ≡ 0
none_used body h reads = ap (λ o. fold used_after 0 (cons_option o [])) reads

pub begun_fits : (Tells : Type 0) (state : State) (signer : SignerKey) (records log : Log) (p : Params) (id seed body : List ℕ) →
    StandsFor state (body ∷ []) → record_of body ≡ Some (header_record (header_with p id seed)) →
    signer ≡ record { levels = p.levels; id = id; seed = seed; prepared = 0 } → records ≡ body ∷ [] → log ≡ body ∷ [] →
    Fits Tells state signer records (record { log = log; next = 0; pending = None })
begun_fits Tells state signer records log p id seed body stood reads is there same =
    let headed : IsHeaded signer (body ∷ []) = subst (λ (s : SignerKey). IsHeaded s (body ∷ [])) (sym is) (record {
      header = header_with p id seed;
      first = header_alone body (header_with p id seed) reads;
      key = refl;
      levels = refl;
    }) in
    let none = none_used body (header_with p id seed) reads in
    let used : used_of (body ∷ []) ≤ 0 = omega (arith, none) in
    record {
      state = subst (λ (L : Log). StandsFor state L) (sym same) stood;
      headed = subst (λ (L : Log). IsHeaded signer L) (sym same) headed;
      sound = record { log = subst WellMade (sym same) stood.sound; pending = tt };
      ahead = omega arith;
      above = subst (λ (L : Log). used_of L ≤ 0) (sym same) used;
      counted = ap length (there ∙ sym same);
      told = λ tells. there ∙ sym same;
    }

pub settled_fits : (Tells : Type 0) (state : State) (signer : SignerKey) (records log : Log) (pending : Option (List ℕ)) (p : Params) (id seed body : List ℕ) →
    StandsFor state (body ∷ []) → record_of body ≡ Some (header_record (header_with p id seed)) →
    signer ≡ record { levels = p.levels; id = id; seed = seed; prepared = 0 } → records ≡ body ∷ [] → log ≡ body ∷ [] → pending ≡ None →
    Fits Tells state signer records (record { log = log; next = 0; pending = pending })
settled_fits Tells state signer records log pending p id seed body stood reads is there same none =
    subst (λ (o : Option (List ℕ)). Fits Tells state signer records (record { log = log; next = 0; pending = o })) (sym none)
    (begun_fits Tells state signer records log p id seed body stood reads is there same)

-- ---- causes

pub no_memory : (Tells : Type 0) (h : Header) (bytes : List ℕ) (now : ℕ) (why : RegistrarStop) → is_within_limits h ≡ true → why ≡ OutOfMemory → ExplainsBegin Tells h bytes now now why
no_memory Tells h bytes now why within is = subst (λ (w : RegistrarStop). ExplainsBegin Tells h bytes now now w) (sym is) (within, refl)

stops_by : (Tells : Type 0) (h : Header) (bytes : List ℕ) (before now : ℕ) (why : CreateStop) → is_within_limits h ≡ true → ExplainsCreate Tells bytes before now why → ExplainsBegin Tells h bytes before now (made_stop why)
stops_by Tells h bytes before now of_create.LogExists within e = (within, e.0, e.1)
stops_by Tells h bytes before now of_create.DiskFault within e = (within, e)
stops_by Tells h bytes before now of_create.OutOfMemory within e = (within, e)

pub ledger_stops : (Tells : Type 0) (h : Header) (bytes : List ℕ) (before now : ℕ) (why : CreateStop) (stop : RegistrarStop) → is_within_limits h ≡ true → stop ≡ made_stop why → ExplainsCreate Tells bytes before now why →
    ExplainsBegin Tells h bytes before now stop
ledger_stops Tells h bytes before now why stop within is e =
    subst (λ (w : RegistrarStop). ExplainsBegin Tells h bytes before now w) (sym is) (stops_by Tells h bytes before now why within e)

-- a stop of the disk's file is none of the parameters
pub never_params : (why : CreateStop) → made_stop why ≡ BadParams → ⊥
never_params of_create.LogExists is = cc
never_params of_create.DiskFault is = cc
never_params of_create.OutOfMemory is = cc

-- a want of memory that is answered was one
pub memory_was : (why : CreateStop) → made_stop why ≡ OutOfMemory → why ≡ of_create.OutOfMemory
memory_was of_create.LogExists is = absurd (cc)
memory_was of_create.DiskFault is = absurd (cc)
memory_was of_create.OutOfMemory is = refl

-- the signer isn't that of the records
pub signer_stops : (Tells : Type 0) (id seed : List ℕ) (R S : Log) (before now : ℕ) (why : RegistrarStop) → (Tells → S ≡ R) → now ≡ before → ExplainsSigner S id seed why → ExplainsLog Tells id seed R before now why
signer_stops Tells id seed R S before now BadParams told same e = absurd e
signer_stops Tells id seed R S before now LogExists told same e = absurd e
signer_stops Tells id seed R S before now NoLog told same e = absurd e
signer_stops Tells id seed R S before now (Short at) told same e = absurd e
signer_stops Tells id seed R S before now (BadLog number why) told same e = absurd e
signer_stops Tells id seed R S before now (WrongKey kept derived) told same e = (λ tells. subst (λ (L : Log). HasOtherKey L id seed kept derived) (told tells) e, same)
signer_stops Tells id seed R S before now DiskFault told same e = absurd e
signer_stops Tells id seed R S before now OutOfMemory told same e = same
