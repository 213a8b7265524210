-- One more item at the end of a list of a form.
use Rattle.std.proofs.Common.{◌≡◌, ℕ, ◌≤◌, List, [], ◌∷◌, ◌++◌, length, Ok, Err, ap, sym, subst, arith}
use Rattle.toml.specs.Data.{Data, Items, no_items, item, push_item, depth, items_depth}
use Rattle.scitt_forms.specs.Refusals.{Said, and_then}
use Rattle.scitt_forms.specs.Fields.{each_onto}

module _ {A : Type 0} (part : ℕ → Data → Said A) where
  -- by what the first item says
  pushed : (front : List A) (ds : Items) (d : Data) (xs : List A) (x : A) (said : Said A)
      → ((y : A) → each_onto part (front ++ y ∷ []) ds ≡ Ok xs → each_onto part (front ++ y ∷ []) (push_item ds d) ≡ Ok (xs ++ x ∷ []))
      → and_then said (λ y. each_onto part (front ++ y ∷ []) ds) ≡ Ok xs → and_then said (λ y. each_onto part (front ++ y ∷ []) (push_item ds d)) ≡ Ok (xs ++ x ∷ [])
  pushed front ds d xs x (Ok y) more is = more y is
  pushed front ds d xs x (Err r) more is = cc

  same_list : (front xs : List A) → ◌≡◌ {A = Said (List A)} (Ok front) (Ok xs) → front ≡ xs
  same_list front xs h = cc

  pub each_push : (front : List A) (ds : Items) (d : Data) (xs : List A) (x : A) → each_onto part front ds ≡ Ok xs → part (length xs) d ≡ Ok x
      → each_onto part front (push_item ds d) ≡ Ok (xs ++ x ∷ [])
  each_push front no_items d xs x is one =
      let same : front ≡ xs = same_list front xs is in
      subst (λ (ys : List A). and_then (part (length ys) d) (λ y. each_onto part (ys ++ y ∷ []) no_items) ≡ Ok (xs ++ x ∷ [])) (sym same)
      (ap (λ s. and_then s (λ y. Ok (xs ++ y ∷ []))) one)
  each_push front (item e ds) d xs x is one =
      pushed front ds d xs x (part (length front) e) (λ y h. each_push (front ++ y ∷ []) ds d xs x h one) is

pub depth_push : (ds : Items) (d : Data) (n : ℕ) → items_depth ds ≤ n → depth d ≤ n → items_depth (push_item ds d) ≤ n
depth_push no_items d n a b = omega arith
depth_push (item e ds) d n a b =
    let more : items_depth (push_item ds d) ≤ n = depth_push ds d n (omega (arith, a)) b in omega (arith, a, more)
