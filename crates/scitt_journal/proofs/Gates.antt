use Rattle.std.proofs.Common.{◌≡◌, ◌≢◌, ℕ, ◌+◌, ◌^◌, ◌<◌, List, [], ◌∷◌, ◌++◌, length, get_or, refl, ap, sym, ◌∙◌, inl, inr, arith, append_assoc, length-append, append-nil, suc}
use Rattle.std.proofs.lemmas.Bool.{cases_eq}
use Rattle.scitt_journal.specs.Layout.{size_bytes, sized, spelled, starts, AllFit, Recovers, OneOf}

pub length-size_bytes : (n : ℕ) → length (size_bytes n) ≡ 4
unfolding size_bytes
length-size_bytes n = refl

pub length-sized : (body : List ℕ) → length (sized body) ≡ 4 + length body
length-sized body = omega (arith, length-append (size_bytes (length body)) body, length-size_bytes (length body))

-- one record more
pub spelled_push : (bodies : List (List ℕ)) (body : List ℕ) → spelled (bodies ++ body ∷ []) ≡ spelled bodies ++ 1 ∷ sized body
spelled_push [] body = ap (λ rest. 1 ∷ rest) (append-nil (sized body))
spelled_push (first ∷ bodies) body =
    ap (λ rest. 1 ∷ (sized first ++ rest)) (spelled_push bodies body) ∙ ap (λ rest. 1 ∷ rest) (sym (append_assoc (sized first) (spelled bodies) (1 ∷ sized body)))

pub length-spelled_push : (bodies : List (List ℕ)) (body : List ℕ) → length (spelled (bodies ++ body ∷ [])) ≡ length (spelled bodies) + 5 + length body
length-spelled_push bodies body =
    ap length (spelled_push bodies body) ∙ omega (arith, length-append (spelled bodies) (1 ∷ sized body), length-sized body)

pub AllFit_push : (bodies : List (List ℕ)) (body : List ℕ) → AllFit bodies → length body < 2 ^ 32 → AllFit (bodies ++ body ∷ [])
AllFit_push [] body fit fits = (fits, tt)
AllFit_push (first ∷ bodies) body fit fits = (fit.0, AllFit_push bodies body fit.1 fits)

pub starts_push : (at : ℕ) (bodies : List (List ℕ)) (body : List ℕ) → starts at (bodies ++ body ∷ []) ≡ starts at bodies ++ (at + length (spelled bodies)) ∷ []
starts_push at [] body = ap (λ place. place ∷ []) (omega arith)
starts_push at (first ∷ bodies) body =
    ap (λ rest. at ∷ rest) (starts_push (at + 5 + length first) bodies body ∙ ap (λ place. starts (at + 5 + length first) bodies ++ place ∷ []) (omega (arith, length-append (sized first) (spelled bodies), length-sized first)))

pub length-starts : (at : ℕ) (bodies : List (List ℕ)) → length (starts at bodies) ≡ length bodies
length-starts at [] = refl
length-starts at (first ∷ bodies) = ap (λ n. suc n) (length-starts (at + 5 + length first) bodies)

-- a gate that isn't open ends the list
pub recovers_shut : (image : List ℕ) (bodies : List (List ℕ)) (gate : ℕ) (behind : List ℕ) → AllFit bodies → gate ≢ 1 → image ≡ spelled bodies ++ gate ∷ behind → Recovers image bodies
recovers_shut image [] gate behind fit shut is =
    inl (inr (λ opened. shut (sym (ap (λ bytes. get_or bytes 0 0) is) ∙ opened)), refl)
recovers_shut image (body ∷ bodies) gate behind fit shut is =
    inr (length behind, record { some = omega arith; fit = fit; gate = gate; shut = shut; behind = behind; is = is; left = refl })

-- an open gate adds its record
pub opened_is : (image : List ℕ) (bodies : List (List ℕ)) (body : List ℕ) (gate : ℕ) (behind : List ℕ) → image ≡ spelled bodies ++ 1 ∷ (sized body ++ gate ∷ behind) → image ≡ spelled (bodies ++ body ∷ []) ++ gate ∷ behind
opened_is image bodies body gate behind is =
    is ∙ sym (ap (λ front. front ++ gate ∷ behind) (spelled_push bodies body) ∙ append_assoc (spelled bodies) (1 ∷ sized body) (gate ∷ behind))

-- whatever the gate before a whole record is, the list is the one without it or the one with it
pub one_of : (image : List ℕ) (bodies : List (List ℕ)) (body : List ℕ) (gate : ℕ) (behind : List ℕ) → AllFit bodies → length body < 2 ^ 32 → image ≡ spelled bodies ++ gate ∷ (sized body ++ 0 ∷ behind) → OneOf bodies body image
one_of image bodies body gate behind fit fits is =
    elim (cases_eq gate 1) [
      | inl e ↦ inr (recovers_shut image (bodies ++ body ∷ []) 0 behind (AllFit_push bodies body fit fits) (λ e. cc) (opened_is image bodies body 0 behind (rw e at is)))
      | inr e ↦ inl (recovers_shut image bodies gate (sized body ++ 0 ∷ behind) fit e is)
    ]
