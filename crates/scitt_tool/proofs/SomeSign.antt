-- `sign` has an outcome for all bytes of a key file.
use Rattle.std.proofs.Common.{◌≡◌, ℕ, zero, suc, ◌+◌, ◌<◌, ◌≤◌, ◌⊎◌, min, Bool, true, false, cond, List, [], ◌∷◌, length, take, get_or, Option, Some, None, inl, inr, refl, sym, ap, subst, ◌∙◌, arith, leb-true}
use Rattle.std.specs.Prelude.{◌==◌, ◌&&◌, ◌++◌, nat_le, nat_lt, codes, is_some, option_and_then, if◌then◌else◌}
use Rattle.std.specs.Fmt.{decimal}
use Rattle.std.proofs.lemmas.Bool.{cases_lt, cases_eq, and_parts, eqb-true}
use Rattle.std.proofs.lemmas.List.{take_all}
use Rattle.cbor_core.specs.declared.words.Grammar.TheVariants.{Strict}
use Rattle.cbor_core.specs.declared.tree.Item.{Item}
use Rattle.cbor_core.specs.Items.{uint_in, bytes_in, array_in, is_uint}
use Rattle.cbor_core.specs.Decoding.{strict_item}
use Rattle.cose_sign1.specs.Message.{BareIsSpelled, bare_text}
use Rattle.lms_tree.specs.declared.types.Level.{Level}
use Rattle.hss_keys.specs.Levels.{IsLevels, capacity}
use Rattle.hss_keys.specs.Signing.{hss_sig}
use Rattle.hss_keys.specs.Signers.{hss_sig_len}
use Rattle.scitt_journal.specs.Layout.{RecordsOf}
use Rattle.scitt_journal.specs.Laws.{AreBytes, OneOfThree}
use Rattle.key_store.specs.declared.records.KeyHead.{KeyHead}
use Rattle.key_store.specs.Records.{are_levels, kept_levels, levels_of, levels_in, sized, sized_in, kept_block, block_in, head_from, head_of_parts, head_in, head_of, IsHead, upto_of}
use Rattle.key_store.specs.Keys.{reserved_of, key_of, reserve_holds, holds_after, fits_behind, fits_at, IsFirstBad, IsKeyFile}
use Rattle.key_store.proofs.LevelLemmas.{levels_true}
use Rattle.key_store.proofs.ListLemmas.{reserved_next, reserved_first}
use Rattle.statement.specs.Statements.{most_logged, Logged}
use Rattle.scitt_tool.specs.Answer.{done, refused, exhausted}
use Rattle.scitt_draft.specs.Drafts.{Claims, names_fit, protected_by}
use Rattle.scitt_tool.specs.Keygen.{kid_of}
use Rattle.scitt_tool.specs.Outcome.{Outcome, Keyed, plain}
use Rattle.scitt_tool.specs.Sign.{logged_len, fits, signature_at, refused_claim, SignedBy, SignOf}
use Rattle.cose_sign1.specs.OneTbs.{tbs_of}

abbrev Has : (Outcome → Type 0) → Type 0
Has P = (outcome : Outcome) × P outcome

either : (b : Bool) → (b ≡ true) ⊎ (b ≡ false)
either true = inl refl
either false = inr refl

-- ---- records: each fits, or one is the first that doesn't

abbrev Bad : List (List ℕ) → Type 0
Bad records = (n : ℕ) × IsFirstBad records n

abbrev Fit : List (List ℕ) → ℕ → Type 0
Fit records n = (k : ℕ) → k < n → fits_at records k ≡ true

fit_more : (records : List (List ℕ)) (n : ℕ) → Fit records n → fits_at records n ≡ true → Fit records (suc n)
fit_more records n all last = λ k below. elim (cases_lt k n) [
  | inl before ↦ all k before
  | inr above ↦ let e : k ≡ n = omega (arith, below, above) in rw e last
]

first_bad : (records : List (List ℕ)) (n : ℕ) → n ≤ length records → Fit records n ⊎ Bad records
first_bad records zero within = inl (λ k below. absurd (omega (arith, below)))
first_bad records (suc n) within =
    elim (first_bad records n (omega (arith, within))) [
      | inl all ↦ elim (either (fits_at records n)) [
        | inl last ↦ inl (fit_more records n all last)
        | inr bad ↦ inr (n, record { within = omega (arith, within); before = all; bad = bad })
      ]
      | inr found ↦ inr found
    ]

-- ---- a key's limits

if_some : {A : Type 0} (b : Bool) (v out : A) → (if b then Some v else None) ≡ Some out → (b ≡ true) × (v ≡ out)
if_some true v out e = (refl, cc)
if_some false v out e = absurd cc

and_then_some : {A B : Type 0} (o : Option A) (f : A → Option B) (out : B) → option_and_then f o ≡ Some out → (v : A) × (o ≡ Some v) × (f v ≡ Some out)
and_then_some (Some v) f out e = (v, refl, e)
and_then_some None f out e = absurd cc

parts_of : (s i : Option (List ℕ)) (l : Option (List Level)) (b : Option ℕ) (head : KeyHead) → head_from s i l b ≡ Some head
    → (s ≡ Some head.seed) × (i ≡ Some head.id) × (l ≡ Some head.levels) × (b ≡ Some head.block)
parts_of (Some s) (Some i) (Some l) (Some b) head e =
    let same : record { seed = s; id = i; levels = l; block = b } ≡ head = cc in
    (ap (λ (h : KeyHead). Some h.seed) same, ap (λ (h : KeyHead). Some h.id) same, ap (λ (h : KeyHead). Some h.levels) same, ap (λ (h : KeyHead). Some h.block) same)
parts_of None i l b head e = absurd cc
parts_of (Some s) None l b head e = absurd cc
parts_of (Some s) (Some i) None b head e = absurd cc
parts_of (Some s) (Some i) (Some l) None head e = absurd cc

sized_is : (n : ℕ) (item : Item) (out : List ℕ) → sized_in n item ≡ Some out → length out ≡ n
sized_is n item out e =
    let found = and_then_some (bytes_in item) (sized n) out e in
    let fit = if_some (length found.0 == n) found.0 out found.2 in
    ap length (sym fit.1) ∙ eqb-true (length found.0) n fit.0

levels_are : (item : Item) (levels : List Level) → levels_in item ≡ Some levels → IsLevels levels
levels_are item levels e =
    let found = and_then_some (option_and_then levels_of (array_in item)) kept_levels levels e in
    let fit = if_some (are_levels found.0) found.0 levels found.2 in
    subst IsLevels fit.1 (levels_true found.0 fit.0)

block_is : (item : Item) (block : ℕ) → block_in item ≡ Some block → (1 ≤ block) × (block ≤ 64)
block_is item block e =
    let found = and_then_some (uint_in item) kept_block block e in
    let fit = if_some (nat_le 1 found.0 && nat_le found.0 64) found.0 block found.2 in
    let both = and_parts (nat_le 1 found.0) (nat_le found.0 64) fit.0 in
    (omega (arith, fit.1, leb-true 1 found.0 both.0), omega (arith, fit.1, leb-true found.0 64 both.1))

given_by : (b : Bool) (o : Option KeyHead) (head : KeyHead) → (if b then o else None) ≡ Some head → o ≡ Some head
given_by true o head e = e
given_by false o head e = absurd cc

head_parts : (items : List Item) (head : KeyHead) → head_of_parts items ≡ Some head → IsHead head
head_parts (kind ∷ version ∷ seed ∷ id ∷ levels ∷ block ∷ []) head e =
    let given = given_by (is_uint 0 kind && is_uint 1 version) (head_from (sized_in 32 seed) (sized_in 16 id) (levels_in levels) (block_in block)) head e in
    let parts = parts_of (sized_in 32 seed) (sized_in 16 id) (levels_in levels) (block_in block) head given in
    let around = block_is block head.block parts.3 in
    record { seed = sized_is 32 seed head.seed parts.0; id = sized_is 16 id head.id parts.1; levels = levels_are levels head.levels parts.2; some = around.0; most = around.1 }
head_parts [] head e = absurd cc
head_parts (a ∷ []) head e = absurd cc
head_parts (a ∷ b ∷ []) head e = absurd cc
head_parts (a ∷ b ∷ c ∷ []) head e = absurd cc
head_parts (a ∷ b ∷ c ∷ d ∷ []) head e = absurd cc
head_parts (a ∷ b ∷ c ∷ d ∷ f ∷ []) head e = absurd cc
head_parts (a ∷ b ∷ c ∷ d ∷ f ∷ g ∷ h ∷ rest) head e = absurd cc

is_head : (body : List ℕ) (head : KeyHead) → head_of body ≡ Some head → IsHead head
unfolding head_of
is_head body head e =
    let item = and_then_some (strict_item body) head_in head e in
    let items = and_then_some (array_in item.0) head_of_parts head item.2 in
    head_parts items.0 head items.2

-- ---- a key file reserves no more than its key has

holds_below : (head : KeyHead) (last : ℕ) (o : Option ℕ) → holds_after (Some head) last o ≡ true → (upto : ℕ) × (o ≡ Some upto) × (upto ≤ capacity head.levels)
holds_below head last (Some upto) e =
    let outer = and_parts (nat_lt last upto) (nat_le upto (last + head.block) && nat_le upto (capacity head.levels)) e in
    let inner = and_parts (nat_le upto (last + head.block)) (nat_le upto (capacity head.levels)) outer.1 in
    (upto, refl, leb-true upto (capacity head.levels) inner.1)
holds_below head last None e = absurd cc

last_holds : (records : List (List ℕ)) (head : KeyHead) (n : ℕ) → key_of records ≡ Some head → suc n < length records → fits_at records (suc n) ≡ true
    → (upto : ℕ) × (upto_of (get_or records (suc n) []) ≡ Some upto) × (upto ≤ capacity head.levels)
last_holds [] head n key within fit = absurd cc
last_holds (first ∷ rest) head n key within fit =
    holds_below head (reserved_of (take (suc n) (first ∷ rest))) (upto_of (get_or (first ∷ rest) (suc n) []))
    (subst (λ (o : Option KeyHead). holds_after o (reserved_of (take (suc n) (first ∷ rest))) (upto_of (get_or (first ∷ rest) (suc n) [])) ≡ true) key fit)

by_count : (records : List (List ℕ)) (head : KeyHead) (n : ℕ) → n ≡ length records → IsKeyFile records → key_of records ≡ Some head → reserved_of records ≤ capacity head.levels
by_count records head zero is file key = absurd (omega (arith, is, file.some))
by_count records head (suc zero) is file key =
    let whole : take 1 records ≡ records = take_all 1 records (omega (arith, is)) in
    let none : reserved_of records ≡ 0 = sym (reserved_first records head file.some key ∙ ap reserved_of whole) in
    omega (arith, none)
by_count records head (suc (suc n)) is file key =
    let within : suc n < length records = omega (arith, is) in
    let last = last_holds records head n key within (file.each (suc n) within) in
    let whole : take (suc n + 1) records ≡ records = take_all (suc n + 1) records (omega (arith, is)) in
    let same : last.0 ≡ reserved_of records = reserved_next records (suc n) (get_or records (suc n) []) last.0 within refl last.1 ∙ ap reserved_of whole in
    omega (arith, same, last.2)

reserves_at_most : (records : List (List ℕ)) (head : KeyHead) → IsKeyFile records → key_of records ≡ Some head → reserved_of records ≤ capacity head.levels
reserves_at_most records head file key = by_count records head (length records) refl file key

-- ---- the outcome

abbrev IsHeadOf : Option KeyHead → Type 0
IsHeadOf None = Unit {0}
IsHeadOf (Some head) = IsHead head

head_limits : (body : List ℕ) (o : Option KeyHead) → head_of body ≡ o → IsHeadOf o
head_limits body None e = tt
head_limits body (Some head) e = is_head body head e

abbrev SigLength : Type 0
SigLength = (levels : List Level) (id seed : List ℕ) (index : ℕ) (msg : List ℕ) → IsLevels levels → length id ≡ 16 → index < capacity levels → length (hss_sig levels id seed index msg) ≡ hss_sig_len levels

module _ (bare : BareIsSpelled) (sig_len : SigLength) where
  -- a statement of claims that fit
  spells : (claims : Claims) (head : KeyHead) (next : ℕ) (payload : List ℕ) → IsHead head → next < capacity head.levels → fits claims head payload ≡ true
      → (statement : List ℕ) × Logged (protected_by claims (kid_of head)) payload (signature_at head next (protected_by claims (kid_of head)) payload) statement
  spells claims head next payload limits left fit =
      let protected = protected_by claims (kid_of head) in
      let signature = signature_at head next protected payload in
      let small = leb-true (logged_len protected payload (hss_sig_len head.levels)) most_logged (and_parts (names_fit claims) (nat_le (logged_len protected payload (hss_sig_len head.levels)) most_logged) fit).1 in
      let len = sig_len head.levels head.id head.seed next (tbs_of protected payload) limits.levels limits.id left in
      let text = bare Strict protected payload signature (omega (arith, small)) (omega (arith, small)) (omega (arith, small, len)) in
      (bare_text protected payload signature, text.0)

  by_left : (claims : Claims) (head : KeyHead) (next : ℕ) (payload : List ℕ) → IsHead head → next ≤ capacity head.levels → fits claims head payload ≡ true → Has (SignedBy claims head next payload)
  by_left claims head next payload limits most fit =
      elim (cases_lt next (capacity head.levels)) [
        | inl left ↦
            let made = spells claims head next payload limits left fit in (
              record { answer = done made.0; key = Keyed head (min (next + head.block) (capacity head.levels)) },
              inr (inr (record { fit = fit; left = left; statement = made.0; spelled = made.1; is = refl })),
            )
        | inr above ↦
            (record { answer = exhausted next next; key = Keyed head next }, inr (inl (record { fit = fit; none = omega (arith, most, above); is = refl })))
      ]

  by_claims : (claims : Claims) (head : KeyHead) (next : ℕ) (payload : List ℕ) → IsHead head → next ≤ capacity head.levels → Has (SignedBy claims head next payload)
  by_claims claims head next payload limits most =
      elim (either (fits claims head payload)) [
        | inl fit ↦ by_left claims head next payload limits most fit
        | inr unfit ↦ (plain refused_claim, inl (record { unfit = unfit; is = refl }))
      ]

  by_key : (claims : Claims) (key payload : List ℕ) (records : List (List ℕ)) (rest : ℕ) (o : Option KeyHead) → RecordsOf key records rest → IsKeyFile records → key_of records ≡ o → is_some o ≡ true → IsHeadOf o
      → Has (SignOf (Unit {0}) claims key payload)
  by_key claims key payload records rest None are file is some limits = absurd cc
  by_key claims key payload records rest (Some head) are file is some limits =
      let signed = by_claims claims head (reserved_of records) payload limits (reserves_at_most records head file is) in (
        signed.0,
        inr (inr (inr (record {
          head = head;
          next = reserved_of records;
          limits = limits;
          file = λ _. record { records = records; rest = rest; are = are; tell = record { file = file; key = is; last = refl } };
          signed = signed.1;
        }))),
      )

  by_records : (claims : Claims) (key payload : List ℕ) (records : List (List ℕ)) (rest : ℕ) → RecordsOf key records rest → Has (SignOf (Unit {0}) claims key payload)
  by_records claims key payload [] rest are = absurd (omega (arith, are.some))
  by_records claims key payload (first ∷ more) rest are =
      elim (first_bad (first ∷ more) (length (first ∷ more)) (omega arith)) [
        | inl all ↦
            by_key claims key payload (first ∷ more) rest (head_of first) are (record { some = omega arith; each = all }) refl (all 0 (omega arith)) (head_limits first (head_of first) refl)
        | inr found ↦ (plain (refused (codes "refused key bad " ++ decimal found.0)), inr (inr (inl (record { number = found.0; bad = λ _. (first ∷ more, (rest, are), found.1); is = refl }))))
      ]

  pub some_sign : OneOfThree → (claims : Claims) (key payload : List ℕ) → AreBytes key → Has (SignOf (Unit {0}) claims key payload)
  some_sign three claims key payload fits =
      elim (three key fits) [
        | inl none ↦ (plain (refused (codes "refused key none")), inl (record { none = λ _. none; is = refl }))
        | inr other ↦ elim other [
          | inl found ↦ (let records = found.1 in by_records claims key payload found.0 records.0 records.1)
          | inr short ↦ (plain (refused (codes "refused key short " ++ decimal short.0)), inr (inl (record { at = short.0; cut = λ _. short.1; is = refl })))
        ]
      ]
