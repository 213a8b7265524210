-- The lengths of texts, one part after the other.
use Rattle.std.proofs.Common.{◌≡◌, ℕ, ◌+◌, ◌<◌, ◌≤◌, List, ◌++◌, length, Option, Some, None, refl, sym, ap, ◌∙◌, inl, inr, arith}
use Rattle.std.proofs.lemmas.Bool.{cases_lt, lt-leb, le-leb}
use Rattle.std.proofs.lemmas.List.{length-append}
use Rattle.cbor_core.specs.declared.heads.Size.{Size}
use Rattle.cbor_core.specs.declared.heads.Size.TheVariants.{Within, One, Two, Four, Eight}
use Rattle.cbor_core.specs.Head.{head}
use Rattle.cbor_core.specs.Encoding.{both, head_size, most, len_of, sum_len}

pub len-fits : (text : List ℕ) → length text ≤ most → len_of (Some text) ≡ Some (length text)
len-fits text le = rw (le-leb (length text) most le) refl

len-long : (text : List ℕ) → most < length text → len_of (Some text) ≡ None
len-long text lt = rw (lt-leb (length text) most lt) refl

pub sum-none : (a : Option ℕ) → sum_len a None ≡ None
sum-none None = refl
sum-none (Some m) = refl

sum-fits : (m n : ℕ) → m + n ≤ most → sum_len (Some m) (Some n) ≡ Some (m + n)
sum-fits m n le = rw (le-leb (m + n) most le) refl

sum-long : (m n : ℕ) → most < m + n → sum_len (Some m) (Some n) ≡ None
sum-long m n lt = rw (lt-leb (m + n) most lt) refl

pub len-both : (x y : Option (List ℕ)) → len_of (both x y) ≡ sum_len (len_of x) (len_of y)
len-both None y = refl
len-both (Some s) None = sym (sum-none (len_of (Some s)))
len-both (Some s) (Some t) =
    elim (cases_lt most (length s)) [
      | inl long ↦ len-long (s ++ t) (omega (arith, length-append s t)) ∙ sym (ap (λ (a : Option ℕ). sum_len a (len_of (Some t))) (len-long s long))
      | inr s_fits ↦ elim (cases_lt most (length t)) [
        | inl long ↦ len-long (s ++ t) (omega (arith, length-append s t)) ∙ sym (ap (λ (b : Option ℕ). sum_len (len_of (Some s)) b) (len-long t long) ∙ sum-none (len_of (Some s)))
        | inr t_fits ↦
            let parts : sum_len (len_of (Some s)) (len_of (Some t)) ≡ sum_len (Some (length s)) (Some (length t)) = λ i. sum_len (len-fits s s_fits i) (len-fits t t_fits i) in
            let n : length (s ++ t) ≡ length s + length t = length-append s t in
            elim (cases_lt most (length s + length t)) [
              | inl long ↦ len-long (s ++ t) (omega arith) ∙ sym (parts ∙ sum-long (length s) (length t) long)
              | inr fits ↦ len-fits (s ++ t) (omega arith) ∙ ap (λ (k : ℕ). Some k) n ∙ sym (parts ∙ sum-fits (length s) (length t) fits)
            ]
      ]
    ]

pub sum-assoc : (a b c : Option ℕ) → sum_len (sum_len a b) c ≡ sum_len a (sum_len b c)
sum-assoc None b c = refl
sum-assoc (Some l) None c = refl
sum-assoc (Some l) (Some m) None = sum-none (sum_len (Some l) (Some m)) ∙ sym (ap (λ (x : Option ℕ). sum_len (Some l) x) (sum-none (Some m)))
sum-assoc (Some l) (Some m) (Some n) =
    elim (cases_lt most (l + m)) [
      | inl long ↦ ap (λ (x : Option ℕ). sum_len x (Some n)) (sum-long l m long) ∙ elim (cases_lt most (m + n)) [
        | inl also ↦ sym (ap (λ (x : Option ℕ). sum_len (Some l) x) (sum-long m n also))
        | inr fits ↦ sym (ap (λ (x : Option ℕ). sum_len (Some l) x) (sum-fits m n fits) ∙ sum-long l (m + n) (omega arith))
      ]
      | inr first ↦ ap (λ (x : Option ℕ). sum_len x (Some n)) (sum-fits l m first) ∙ elim (cases_lt most (m + n)) [
        | inl long ↦ sum-long (l + m) n (omega arith) ∙ sym (ap (λ (x : Option ℕ). sum_len (Some l) x) (sum-long m n long))
        | inr second ↦ elim (cases_lt most (l + m + n)) [
          | inl long ↦ sum-long (l + m) n long ∙ sym (ap (λ (x : Option ℕ). sum_len (Some l) x) (sum-fits m n second) ∙ sum-long l (m + n) (omega arith))
          | inr fits ↦ sum-fits (l + m) n fits ∙ ap (λ (k : ℕ). Some k) (omega arith) ∙ sym (ap (λ (x : Option ℕ). sum_len (Some l) x) (sum-fits m n second) ∙ sum-fits l (m + n) (omega arith))
        ]
      ]
    ]

pub sum-zero : (x : Option (List ℕ)) → sum_len (Some 0) (len_of x) ≡ len_of x
sum-zero None = refl
sum-zero (Some text) =
    elim (cases_lt most (length text)) [
      | inl long ↦ ap (λ (a : Option ℕ). sum_len (Some 0) a) (len-long text long) ∙ sym (len-long text long)
      | inr fits ↦ ap (λ (a : Option ℕ). sum_len (Some 0) a) (len-fits text fits) ∙ sum-fits 0 (length text) (omega arith) ∙ ap (λ (k : ℕ). Some k) (omega arith) ∙ sym (len-fits text fits)
    ]

pub head-len : (major : ℕ) (size : Size) (n : ℕ) → length (head major size n) ≡ head_size size
head-len major Within n = refl
head-len major One n = refl
head-len major Two n = refl
head-len major Four n = refl
head-len major Eight n = refl

head_small : (size : Size) → head_size size ≤ most
head_small Within = omega arith
head_small One = omega arith
head_small Two = omega arith
head_small Four = omega arith
head_small Eight = omega arith

pub head-len_of : (major : ℕ) (size : Size) (n : ℕ) → len_of (Some (head major size n)) ≡ Some (head_size size)
head-len_of major size n =
    let e = head-len major size n in
    let small = head_small size in
    len-fits (head major size n) (omega arith) ∙ ap (λ (k : ℕ). Some k) e
