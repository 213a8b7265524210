-- What a feed says of the bytes that it was fed.
use Rattle.std.proofs.Common.{◌≡◌, ℕ, suc, ◌-◌, ◌+◌, ◌<◌, ◌≤◌, false, cond, List, [], ◌∷◌, ◌++◌, length, take, drop, reverse, get_or, Option, Some, None, Result, Ok, Err, refl, sym, ap, subst, ◌∙◌, inl, inr, arith}
use Rattle.std.proofs.lemmas.Bool.{cases_lt}
use Rattle.std.proofs.lemmas.List.{append-nil, length-append, length-drop, take-append-le, take-append-drop, get_or_append_left, get_or-append-add}
use Rattle.std.specs.Result.{is_ok, is_err}
use Rattle.cbor_core.specs.declared.words.Grammar.{Grammar}
use Rattle.cbor_core.specs.declared.words.Why.TheVariants.{Truncated}
use Rattle.cbor_core.specs.declared.words.Fault.{Fault}
use Rattle.cbor_core.specs.declared.tree.Item.{Item}
use Rattle.cbor_core.specs.Limits.{most_containers}
use Rattle.cbor_core.specs.Bytes.{IsBytes}
use Rattle.cbor_core.specs.Spells.{Spells}
use Rattle.cbor_core.specs.Faults.{FaultIn}
use Rattle.cbor_core.specs.Reading.{read_in}
use Rattle.cbor_core.proofs.StepLemmas.{err_ok}
use Rattle.cbor_core.proofs.DecodeLaws.{prefix_of, fault_of, spelled-again}
use Rattle.cbor_feed.specs.declared.frames.Frame.{Frame}
use Rattle.cbor_feed.specs.declared.feed.Ended.{Ended}
use Rattle.cbor_feed.specs.Keeping.{Keeps}
use Rattle.cbor_feed.specs.Chains.{start_of, Chain, IsRead, IsStuck, IsCut}
use Rattle.cbor_feed.proofs.PartSteps.{nothing-read}
use Rattle.cbor_feed.proofs.ChainSteps.{chain-more, chain-stop}

-- no bytes are cut
pub cut-empty : (g : Grammar) → IsCut g [] []
cut-empty g = record { bytes = λ i. omega arith; chain = tt; place = omega arith; reads = nothing-read g most_containers [] refl }

fault_at : (g : Grammar) (held : List ℕ) (fault : Fault) → IsBytes held → fault.at ≤ length held → read_in g most_containers held ≡ Err (record { left = length held - fault.at; why = fault.why }) → FaultIn g 0 held fault.at fault.why
fault_at g held fault fits le e =
    let back : length held - (length held - fault.at) ≡ fault.at = omega arith in
    subst (λ (n : ℕ). FaultIn g 0 held n fault.why) back (fault_of g held (record { left = length held - fault.at; why = fault.why }) fits e)

cut_stop : (g : Grammar) (frames : List Frame) (held : List ℕ) → IsCut g frames held → read_in g most_containers held ≡ Err (record { left = length held - start_of frames; why = Truncated })
cut_stop g frames held c = chain-stop g frames held (record { left = length held - start_of frames; why = Truncated }) c.chain c.reads

pub cut-fault : (g : Grammar) (frames : List Frame) (held : List ℕ) → IsCut g frames held → FaultIn g 0 held (start_of frames) Truncated
cut-fault g frames held c = fault_at g held (record { at = start_of frames; why = Truncated }) c.bytes c.place (cut_stop g frames held c)

pub stuck-fault : (g : Grammar) (held : List ℕ) (fault : Fault) → IsBytes held → IsStuck g held fault → FaultIn g 0 held fault.at fault.why
stuck-fault g held fault fits s = fault_at g held fault fits s.within s.reads

-- more bytes behind those that are cut
pub chain-fed : (g : Grammar) (frames : List Frame) (held piece all : List ℕ) → IsCut g frames held → all ≡ held ++ piece → Chain g frames all
chain-fed g frames held piece all c e = subst (λ (b : List ℕ). Chain g frames b) (sym e) (chain-more g frames held piece c.chain)

pub place-fed : (g : Grammar) (frames : List Frame) (held piece all : List ℕ) → IsCut g frames held → all ≡ held ++ piece → start_of frames ≤ length all
place-fed g frames held piece all c e = let le : start_of frames ≤ length held = c.place in omega (arith, ap length e, length-append held piece)

-- an item that was read is spelled
pub item-spelled : (g : Grammar) (held : List ℕ) (item : Item) (end : ℕ) → IsBytes held → IsRead g [] held item end → Spells g item (take end held)
item-spelled g held item end fits r =
    let e : read_in g most_containers held ≡ Ok (item, drop end held) = subst (λ (all : List ℕ). read_in g most_containers all ≡ Ok (item, drop end all)) (append-nil held) (r.reads []) in
    let to : end ≤ length held = r.to in
    let n : length held - length (drop end held) ≡ end = omega (arith, length-drop end held) in
    let p = prefix_of g held item (drop end held) fits e in
    subst (λ (k : ℕ). Spells g item (take k held)) n p.1

take_past : (held piece : List ℕ) (n : ℕ) → take (length held + n) (held ++ piece) ≡ held ++ take n piece
take_past [] piece n = let z : 0 + n ≡ n = omega arith in ap (λ (k : ℕ). take k piece) z
take_past (b ∷ held) piece n =
    let s : suc (length held) + n ≡ suc (length held + n) = omega arith in
    ap (λ (k : ℕ). take k (b ∷ (held ++ piece))) s ∙ ap (λ (l : List ℕ). b ∷ l) (take_past held piece n)

-- the item ends in the piece
pub record EndsIn (g : Grammar) (held piece : List ℕ) (item : Item) (end : ℕ) : Type 0 where
  pub some : 0 < end - length held
  pub within : end - length held ≤ length piece
  pub cut : take end (held ++ piece) ≡ held ++ take (end - length held) piece
  pub spelled : Spells g item (held ++ take (end - length held) piece)

pub ends-in : (g : Grammar) (frames : List Frame) (held piece all : List ℕ) (item : Item) (end : ℕ) → IsBytes all → IsCut g frames held → all ≡ held ++ piece → IsRead g [] all item end → EndsIn g held piece item end
ends-in g frames held piece all item end fits c e r =
    let s : Spells g item (take end (held ++ piece)) = subst (λ (b : List ℕ). Spells g item (take end b)) e (item-spelled g all item end fits r) in
    let to : end ≤ length all = r.to in
    elim (cases_lt (length held) end) [
      | inl past ↦
          let n : length held + (end - length held) ≡ end = omega arith in
          let front : take end (held ++ piece) ≡ held ++ take (end - length held) piece = ap (λ (k : ℕ). take k (held ++ piece)) (sym n) ∙ take_past held piece (end - length held) in
          record {
            some = omega arith;
            within = omega (arith, ap length e, length-append held piece);
            cut = front;
            spelled = subst (λ (t : List ℕ). Spells g item t) front s;
          }
      | inr before ↦
          let t : Spells g item (take end held) = subst (λ (b : List ℕ). Spells g item b) (take-append-le end held piece before) s in
          let again : read_in g most_containers held ≡ Ok (item, drop end held) = ap (read_in g most_containers) (sym (take-append-drop end held)) ∙ spelled-again g item (take end held) (drop end held) t in
          absurd (err_ok _ _ (sym (cut_stop g frames held c) ∙ again))
    ]

-- ---- a push

pub none_left : (ended : Option Ended) → ((x : Ended) → ended ≡ Some x → ⊥) → ended ≡ None
none_left None h = refl
none_left (Some x) h = absurd (h x refl)

pub cut-kept : (g : Grammar) (held : List ℕ) (frames : List Frame) (ended : Option Ended) → Keeps g held frames ended → ended ≡ None → IsCut g (reverse frames) held
cut-kept g held frames ended k e = subst (λ (o : Option Ended). Keeps g held frames o) e k

pub fed-is : {T E : Type 0} (r : Result T E) (items held piece : List ℕ) → items ≡ cond (is_ok r) (held ++ piece) held → is_err r ≡ false → items ≡ held ++ piece
fed-is (Ok x) items held piece e f = e
fed-is (Err x) items held piece e f = absurd cc

pub bytes-fed : (g : Grammar) (frames : List Frame) (held piece all : List ℕ) → IsCut g frames held → IsBytes piece → all ≡ held ++ piece → IsBytes all
bytes-fed g frames held piece all c fits e =
    subst IsBytes (sym e) (λ i. elim (cases_lt i (length held)) [
      | inl within ↦ subst (λ (n : ℕ). n < 256) (sym (get_or_append_left held piece 0 i within)) (c.bytes i)
      | inr past ↦
          let n : length held + (i - length held) ≡ i = omega arith in
          subst (λ (n : ℕ). n < 256) (sym (get_or-append-add held piece (i - length held) 0) ∙ ap (λ (k : ℕ). get_or (held ++ piece) k 0) n) (fits (i - length held))
    ])
