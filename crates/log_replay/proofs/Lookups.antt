-- What a state keeps, looked up, is what the log says.
use Rattle.std.proofs.Common.{◌≡◌, ℕ, ◌+◌, max, List, [], ◌∷◌, Bool, cond, not, Option, None, Some, refl, sym, ap, ◌∙◌, length, nat_lt}
use Rattle.std.specs.Prelude.{map, option_map, unwrap_or, position}
use Rattle.std.specs.List.{prefix_len, position_or_len}
use Rattle.std.proofs.lemmas.List.{length-map}
use Rattle.std.specs.Str.{bytes_eq}
use Rattle.statement.specs.Said.{Said, id_of}
use Rattle.policy_rules.specs.declared.documents.Policy.{Policy}
use Rattle.policy_rules.specs.declared.facts.Facts.{Facts}
use Rattle.log_replay.specs.declared.parts.Header.{Header}
use Rattle.log_replay.specs.declared.words.Judgement.{Judgement}
use Rattle.log_replay.specs.declared.words.Judgement.TheVariants.{Known}
use Rattle.log_replay.specs.Records.{Log, Entry, header_of, entries_of}
use Rattle.log_replay.specs.Judging.{judge, judge_new, facts_before, in_force, place_of, last_moment, moment_after}
use Rattle.log_replay.specs.Kept.{Kept, StateOf}
use Rattle.log_replay.specs.KeptRows.{place_in, judge_kept}
use Rattle.log_replay.specs.Laws.{KeptIsJudge}

prefix_map : {A B : Type 0} (f : A → B) (p : B → Bool) (xs : List A) → prefix_len p (map f xs) ≡ prefix_len (λ x. p (f x)) xs
prefix_map f p [] = refl
prefix_map f p (x ∷ xs) = ap (λ n. cond (p (f x)) (1 + n) 0) (prefix_map f p xs)

position_map : {A B : Type 0} (f : A → B) (p : B → Bool) (xs : List A) → position p (map f xs) ≡ position (λ x. p (f x)) xs
position_map f p xs =
    ap (λ n. cond (nat_lt (position_or_len p (map f xs)) n) (Some (position_or_len p (map f xs))) None) (length-map xs f)
    ∙ ap (λ n. cond (nat_lt n (length xs)) (Some n) None) (prefix_map f (λ y. not (p y)) xs)

pub place_is : (E : List Entry) (s : Said) → place_in (map (λ (e : Entry). id_of e.statement) E) (id_of s) ≡ place_of E s
place_is E s = position_map (λ (e : Entry). id_of e.statement) (λ i. bytes_eq i (id_of s)) E

some_same : {A : Type 0} (a b : A) → Some a ≡ Some b → a ≡ b
some_same a b e = cc

-- the judgement by parts that are those of the entries
pub judged_kept : (h : Header) (E : List Entry) (p : Policy) (ids : List (List ℕ)) (earlier : List Facts) (last : ℕ) (s : Said) (m : ℕ)
    → ids ≡ map (λ e. id_of e.statement) E → earlier ≡ facts_before E → last ≡ last_moment E → p ≡ in_force h E
    → judge_kept p ids earlier last s m ≡ judge h E s m
judged_kept h E p ids earlier last s m ids-are facts-are last-is now =
    let place : place_in ids (id_of s) ≡ place_of E s = ap (λ xs. place_in xs (id_of s)) ids-are ∙ place_is E s in
    let new : judge_new p earlier s (max m last) ≡ judge_new (in_force h E) (facts_before E) s (moment_after E m) =
    ap (λ (xs : List Facts). judge_new p xs s (max m last)) facts-are
    ∙ ap (λ n. judge_new p (facts_before E) s (max m n)) last-is ∙ ap (λ (q : Policy). judge_new q (facts_before E) s (moment_after E m)) now in
    ap (λ (o : Option ℕ). unwrap_or (option_map Known o) (judge_new p earlier s (max m last))) place
    ∙ ap (λ (j : Judgement). unwrap_or (option_map Known (place_of E s)) j) new

pub in_force_now : (K : Kept) (R : Log) (h : Header) (p : Policy) → StateOf K R → header_of R ≡ Some h → K.policy ≡ Some p → p ≡ in_force h (entries_of R)
in_force_now K R h p was head now =
    some_same p (in_force h (entries_of R)) (sym now ∙ was.policy ∙ ap (option_map (λ (k : Header). in_force k (entries_of R))) head)

pub kept_is_judge : KeptIsJudge
kept_is_judge K R h p s m was head now =
    judged_kept h (entries_of R) p K.ids K.facts K.last s m was.ids was.facts was.last (in_force_now K R h p was head now)
