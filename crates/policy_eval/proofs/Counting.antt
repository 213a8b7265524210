-- What kept counts say of the entries, after each change.
use Rattle.std.proofs.Common.{◌≡◌, ℕ, ◌+◌, ◌<◌, ◌≤◌, Bool, true, false, cond, ◌&&◌, ◌||◌, nat_lt, List, [], ◌∷◌, ◌++◌, Option, None, Some, refl, sym, ap, ◌∙◌, is_some, IsSome, IfSome, subst, String, arith, true≢false}
use Rattle.std.specs.List.{count_by, list_any, AllByRecursion}
use Rattle.std.specs.Str.{bytes_eq}
use Rattle.std.specs.declared.snapshot.Snapshot.{Snapshot}
use Rattle.std.specs.String.{string_bytes}
use Rattle.std.specs.Cmp.Lexicographic.{nat_list_eq_equiv}
use Rattle.std.proofs.lemmas.Bool.Decides.{nat_tests}
use Rattle.std.proofs.lemmas.List.Sums.{sum_by-cons, sum_by_push}
use Rattle.std.proofs.lemmas.Slice.Eq.{bytes_eq-Decides}
use Rattle.policy_rules.specs.declared.facts.Facts.{Facts}
use Rattle.policy_eval.specs.Holds.{has_issuer, has_subject}
use Rattle.policy_eval.specs.Counts.{place, count, raised, is_place, is_text, is_pair, stands_at, Keeps, Counted, HasKeys}
use Rattle.policy_eval.proofs.Places.{count-none, place-raised, count-raised, one_place}

any_more : (b c : Bool) (n m : ℕ) → c ≡ nat_lt 0 n → m ≡ cond b 1 0 + n → b || c ≡ nat_lt 0 m
any_more true c n m e f = grind (arith, nat_tests)
any_more false c n m e f = grind (arith, nat_tests)

both_more : (b c : Bool) (n m : ℕ) → m ≤ n → cond (b && c) 1 0 + m ≤ cond b 1 0 + n
both_more true true n m h = omega arith
both_more true false n m h = omega arith
both_more false c n m h = omega arith

more_both : (b c : Bool) (n m : ℕ) → m ≤ n → cond (b && c) 1 0 + m ≤ cond c 1 0 + n
more_both true c n m h = omega arith
more_both false true n m h = omega arith
more_both false false n m h = omega arith

-- ---- counts of a list
module _ {X : Type 0} where
  count_by-cons : (p : X → Bool) (x : X) (xs : List X) → count_by p (x ∷ xs) ≡ cond (p x) 1 0 + count_by p xs
  count_by-cons p x xs = sum_by-cons (λ y. cond (p y) 1 0) x xs

  pub count_by_push : (p : X → Bool) (xs : List X) (x : X) → count_by p (xs ++ x ∷ []) ≡ count_by p xs + cond (p x) 1 0
  count_by_push p xs x = sum_by_push (λ y. cond (p y) 1 0) xs x

  pub any-count : (p : X → Bool) (xs : List X) → list_any p xs ≡ nat_lt 0 (count_by p xs)
  any-count p [] = refl
  any-count p (x ∷ xs) = any_more (p x) (list_any p xs) (count_by p xs) (count_by p (x ∷ xs)) (any-count p xs) (count_by-cons p x xs)

  same_counts : (p q : X → Bool) (xs : List X) → AllByRecursion (λ x. p x ≡ q x) xs → count_by p xs ≡ count_by q xs
  same_counts p q [] h = refl
  same_counts p q (x ∷ xs) h = count_by-cons p x xs ∙ (λ j. cond (h.0 j) 1 0 + same_counts p q xs h.1 j) ∙ sym (count_by-cons q x xs)

  both-le-left : (p q : X → Bool) (xs : List X) → count_by (λ x. p x && q x) xs ≤ count_by p xs
  both-le-left p q [] = omega arith
  both-le-left p q (x ∷ xs) =
      omega (arith, count_by-cons p x xs, count_by-cons (λ y. p y && q y) x xs, both_more (p x) (q x) _ _ (both-le-left p q xs))

  both-le-right : (p q : X → Bool) (xs : List X) → count_by (λ x. p x && q x) xs ≤ count_by q xs
  both-le-right p q [] = omega arith
  both-le-right p q (x ∷ xs) =
      omega (arith, count_by-cons q x xs, count_by-cons (λ y. p y && q y) x xs, more_both (p x) (q x) _ _ (both-le-right p q xs))

-- ---- texts and pairs as queries
same_text : {A : Type 0} (q r : List ℕ) (k : String A) → is_text q k ≡ true → is_text r k ≡ bytes_eq q r
same_text q r k h = nat_list_eq_equiv.symm r (string_bytes k) ∙ sym (nat_list_eq_equiv.congr q (string_bytes k) r h)

text_same : {A : Type 0} (q r : List ℕ) (k : String A) → is_text r k ≡ true → is_text q k ≡ bytes_eq q r
text_same q r k h = same_text r q k h ∙ nat_list_eq_equiv.symm r q

pub text_place : {A : Type 0} (es : List (String A × ℕ)) (q r : List ℕ) (i : ℕ) → place (is_text q) es ≡ Some i → is_place i (place (is_text r) es) ≡ bytes_eq q r
text_place es q r i h = one_place is_text bytes_eq same_text text_same q r es i h

pair_symm : (q r : ℕ × ℕ) → is_pair q r ≡ is_pair r q
pair_symm q r = grind (arith, nat_tests)

pub pair_refl : (q : ℕ × ℕ) → is_pair q q ≡ true
pair_refl q = grind (arith, nat_tests)

pair_same : (q r k : ℕ × ℕ) → is_pair q k ≡ true → is_pair r k ≡ is_pair r q
pair_same q r k h = grind (arith, nat_tests)

pub pair_place : (es : List ((ℕ × ℕ) × ℕ)) (q r : ℕ × ℕ) (i : ℕ) → place (is_pair q) es ≡ Some i → is_place i (place (is_pair r) es) ≡ is_pair r q
pair_place es q r i h = one_place is_pair (λ x y. is_pair y x) pair_same (λ x y k e. pair_same y x k e ∙ pair_symm x y) q r es i h

-- ---- entries have places
module _ {A : Type 0} (texts : List (String A × ℕ)) (text_of : Facts → List ℕ) where
  has_place : (n : ℕ) (text : List ℕ) → count (is_text text) texts ≡ n → 0 < n → IsSome (place (is_text text) texts)
  has_place n text e h = by (place (is_text text) texts) refl
    where
      by : (at : Option ℕ) → place (is_text text) texts ≡ at → IsSome (place (is_text text) texts)
      by None p = absurd (omega (arith, count-none (is_text text) texts p))
      by (Some i) p = ap is_some p

  placed : (entries : List Facts) → ((text : List ℕ) → 0 < count_by (λ f. bytes_eq (text_of f) text) entries → IsSome (place (is_text text) texts))
      → AllByRecursion (λ f. IsSome (place (is_text (text_of f)) texts)) entries
  placed [] h = tt
  placed (f ∷ entries) h =
      let first = count_by-cons (λ g. bytes_eq (text_of g) (text_of f)) f entries in
      let same = (bytes_eq-Decides (text_of f) (text_of f)).1 refl in
      (h (text_of f) (grind (arith, first, same)), placed entries (λ text some. h text (omega (arith, count_by-cons (λ g. bytes_eq (text_of g) text) f entries))))

-- ---- the counts after new keys
same_place : (at at' : Option ℕ) (n : ℕ) → IsSome at → ((i : ℕ) → at ≡ Some i → at' ≡ Some i) → is_place n at' ≡ is_place n at
same_place None at' n h k = absurd (true≢false (sym h))
same_place (Some i) at' n h k = ap (is_place n) (k i refl)

module _ {A : Type 0} (s i s' i' : List (String A × ℕ)) (ks : Keeps is_text s s') (ki : Keeps is_text i i') where
  stays : (pair : ℕ × ℕ) (entries : List Facts) → AllByRecursion (λ f. IsSome (place (is_text f.subject) s)) entries → AllByRecursion (λ f. IsSome (place (is_text f.issuer) i)) entries
      → AllByRecursion (λ f. stands_at s' i' pair f ≡ stands_at s i pair f) entries
  stays pair [] hs hi = tt
  stays pair (f ∷ entries) hs hi = (
    (λ j. same_place (place (is_text f.subject) s) (place (is_text f.subject) s') pair.0 hs.0 (ks.places f.subject) j
        && same_place (place (is_text f.issuer) i) (place (is_text f.issuer) i') pair.1 hi.0 (ki.places f.issuer) j),
    stays pair entries hs.1 hi.1,
  )

  module _ (p p' : List ((ℕ × ℕ) × ℕ)) (kp : Keeps is_pair p p') where
    pub counted_keys : (entries : List Facts) → Counted s i p entries → Counted s' i' p' entries
    counted_keys entries c =
        let hs = placed s (λ f. f.subject) entries (λ text some. has_place s (λ f. f.subject) _ text (c.subjects text) some) in
        let hi = placed i (λ f. f.issuer) entries (λ text some. has_place i (λ f. f.issuer) _ text (c.issuers text) some) in
        record {
          subjects = λ text. ks.counts text ∙ c.subjects text;
          issuers = λ text. ki.counts text ∙ c.issuers text;
          pairs = λ pair. kp.counts pair ∙ c.pairs pair ∙ sym (same_counts (stands_at s' i' pair) (stands_at s i pair) entries (stays pair entries hs hi));
        }

    pub kept_keys : (f : Facts) → HasKeys s i p f → HasKeys s' i' p' f
    kept_keys f h = record {
      subject_at = h.subject_at;
      issuer_at = h.issuer_at;
      pair_at = h.pair_at;
      subject = ks.places f.subject h.subject_at h.subject;
      issuer = ki.places f.issuer h.issuer_at h.issuer;
      pair = kp.places (h.subject_at, h.issuer_at) h.pair_at h.pair;
    }

-- ---- the counts after one more entry
module _ {A : Type 0} (s i : List (String A × ℕ)) (p : List ((ℕ × ℕ) × ℕ)) (entries : List Facts) (f : Facts) (c : Counted s i p entries) where
  module _ (a b k : ℕ) (at : place (is_text f.subject) s ≡ Some a) (by : place (is_text f.issuer) i ≡ Some b) (pair : place (is_pair (a, b)) p ≡ Some k) where
    stands : (q : ℕ × ℕ) → stands_at (raised s a) (raised i b) q f ≡ is_pair q (a, b)
    stands q = λ j. is_place q.0 ((place-raised (is_text f.subject) s a ∙ at) j) && is_place q.1 ((place-raised (is_text f.issuer) i b ∙ by) j)

    before : (q : ℕ × ℕ) → count_by (stands_at (raised s a) (raised i b) q) entries ≡ count_by (stands_at s i q) entries
    before q = λ j. count_by (λ g. is_place q.0 (place-raised (is_text g.subject) s a j) && is_place q.1 (place-raised (is_text g.issuer) i b j)) entries

    pub counted_more : Counted (raised s a) (raised i b) (raised p k) (entries ++ f ∷ [])
    counted_more = record {
      subjects = λ text. count-raised (is_text text) s a ∙ (λ j. c.subjects text j + cond (text_place s f.subject text a at j) 1 0) ∙ sym (count_by_push (has_subject text) entries f);
      issuers = λ text. count-raised (is_text text) i b ∙ (λ j. c.issuers text j + cond (text_place i f.issuer text b by j) 1 0) ∙ sym (count_by_push (has_issuer text) entries f);
      pairs = λ q. count-raised (is_pair q) p k ∙ (λ j. c.pairs q j + cond (pair_place p (a, b) q k pair j) 1 0)
          ∙ sym (count_by_push (stands_at (raised s a) (raised i b) q) entries f ∙ (λ j. before q j + cond (stands q j) 1 0));
    }

-- ---- what the counts answer
module _ {A : Type 0} (s i : List (String A × ℕ)) (p : List ((ℕ × ℕ) × ℕ)) (entries : List Facts) (c : Counted s i p entries) (subject issuer : List ℕ) where
  pub count_of_both : (a b : ℕ) → place (is_text subject) s ≡ Some a → place (is_text issuer) i ≡ Some b
      → count (is_pair (a, b)) p ≡ count_by (λ f. has_subject subject f && has_issuer issuer f) entries
  count_of_both a b at by =
      c.pairs (a, b)
      ∙ (λ j. count_by (λ f. (text_place s subject f.subject a at ∙ nat_list_eq_equiv.symm subject f.subject) j && (text_place i issuer f.issuer b by ∙ nat_list_eq_equiv.symm issuer f.issuer) j) entries)

  pub none_of_subject : place (is_text subject) s ≡ None → 0 ≡ count_by (λ f. has_subject subject f && has_issuer issuer f) entries
  none_of_subject none =
      omega (arith, count-none (is_text subject) s none, c.subjects subject, both-le-left (has_subject subject) (has_issuer issuer) entries)

  pub none_of_issuer : place (is_text issuer) i ≡ None → 0 ≡ count_by (λ f. has_subject subject f && has_issuer issuer f) entries
  none_of_issuer none =
      omega (arith, count-none (is_text issuer) i none, c.issuers issuer, both-le-right (has_subject subject) (has_issuer issuer) entries)

-- ---- the room
module _ {A : Type 0} (s i s' i' : List (String A × ℕ)) (p p' : List ((ℕ × ℕ) × ℕ)) where
  all_kept : (next : Option (Snapshot Facts)) → ((f : Facts) → HasKeys s i p f → HasKeys s' i' p' f) → IfSome next (λ n. HasKeys s i p n.value) → IfSome next (λ n. HasKeys s' i' p' n.value)
  all_kept None keeps h = tt
  all_kept (Some n) keeps h = keeps n.value h

  pub stands_kept : (ks : Keeps is_text s s') (ki : Keeps is_text i i') (kp : Keeps is_pair p p') (entries : List Facts) (next : Option (Snapshot Facts))
      → Counted s i p entries × IfSome next (λ n. HasKeys s i p n.value) → Counted s' i' p' entries × IfSome next (λ n. HasKeys s' i' p' n.value)
  stands_kept ks ki kp entries next h = (counted_keys s i s' i' ks ki p p' kp entries h.0, all_kept next (kept_keys s i s' i' ks ki p p' kp) h.1)

  -- the same counts under other names
  pub counted_as : (entries entries' : List Facts) → s' ≡ s → i' ≡ i → p' ≡ p → entries' ≡ entries → Counted s i p entries → Counted s' i' p' entries'
  counted_as entries entries' a b d e c =
      subst (Counted s' i' p') (sym e) (subst (λ x. Counted s' i' x entries) (sym d) (subst (λ x. Counted s' x p entries) (sym b) (subst (λ x. Counted x i p entries) (sym a) c)))
