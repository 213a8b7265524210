use Rattle.std.proofs.Common.{◌≡◌, ℕ, ◌+◌, ◌-◌, ◌^◌, ◌<◌, ◌≤◌, min, List, [], ◌∷◌, ◌++◌, length, take, drop, get_or, refl, ap, sym, ◌∙◌, arith, append_assoc, length-append, Result, Ok, Err, IfOk}
use Rattle.std.proofs.lemmas.List.{take-append-drop, drop_more, get_or_at, get_or-append_right, take_at, drop_at, length-take-le}
use Rattle.std.proofs.Math.Seq.{drop-append-add}
use Rattle.scitt_journal.specs.Layout.{size_bytes, sized, spelled, starts}
use Rattle.scitt_journal.proofs.Gates.{length-size_bytes, length-sized, length-starts}

starts_append : (at : ℕ) (front back : List (List ℕ)) → starts at (front ++ back) ≡ starts at front ++ starts (at + length (spelled front)) back
starts_append at [] back = ap (λ place. starts place back) (omega arith)
starts_append at (body ∷ front) back =
    ap (λ rest. at ∷ rest) (starts_append (at + 5 + length body) front back ∙ ap (λ place. starts (at + 5 + length body) front ++ starts place back) (omega (arith, length-append (sized body) (spelled front), length-sized body)))

spelled_append : (front back : List (List ℕ)) → spelled (front ++ back) ≡ spelled front ++ spelled back
spelled_append [] back = refl
spelled_append (body ∷ front) back =
    ap (λ rest. 1 ∷ (sized body ++ rest)) (spelled_append front back) ∙ ap (λ rest. 1 ∷ rest) (sym (append_assoc (sized body) (spelled front) (spelled back)))

next_start : (at gate : ℕ) (bodies : List (List ℕ)) → gate ≡ at + length (spelled bodies) → get_or (starts at bodies ++ gate ∷ []) 0 0 ≡ at
next_start at gate [] e = omega arith
next_start at gate (body ∷ bodies) e = refl

-- the record between others: where it starts, where it ends, and its body there
start_is : (front : List (List ℕ)) (body : List ℕ) (back : List (List ℕ)) → get_or (starts 0 (front ++ body ∷ back)) (length front) 0 ≡ length (spelled front)
start_is front body back =
    ap (λ list. get_or list (length front) 0) (starts_append 0 front (body ∷ back)) ∙ get_or_at (starts 0 front) (0 + length (spelled front)) (starts (0 + length (spelled front) + 5 + length body) back) 0 (length front) (length-starts 0 front) ∙ omega arith

end_is : (front : List (List ℕ)) (body : List ℕ) (back : List (List ℕ)) (gate : ℕ) → gate ≡ length (spelled (front ++ body ∷ back)) → get_or (starts 0 (front ++ body ∷ back) ++ gate ∷ []) (length front + 1) 0 ≡ length (spelled front) + 5 + length body
end_is front body back gate e =
    let here : ℕ = 0 + length (spelled front) in
    let next : ℕ = here + 5 + length body in
    let tail : List ℕ = starts next back ++ gate ∷ [] in
    let whole : starts 0 (front ++ body ∷ back) ++ gate ∷ [] ≡ starts 0 front ++ here ∷ tail = ap (λ list. list ++ gate ∷ []) (starts_append 0 front (body ∷ back)) ∙ append_assoc (starts 0 front) (here ∷ starts next back) (gate ∷ []) in
    let one : (length front + 1) - length front ≡ 1 = omega arith in
    let long : gate ≡ next + length (spelled back) = e ∙ omega (arith, ap length (spelled_append front (body ∷ back)), length-append (spelled front) (spelled (body ∷ back)), length-append (sized body) (spelled back), length-sized body) in
    ap (λ list. get_or list (length front + 1) 0) whole ∙ get_or-append_right (starts 0 front) (here ∷ tail) (length front) (length front + 1) 0 (length-starts 0 front) (omega arith) ∙ ap (λ k. get_or (here ∷ tail) k 0) one ∙ next_start next gate back long ∙ omega arith

body_there : (front : List (List ℕ)) (body : List ℕ) (back : List (List ℕ)) (behind : List ℕ) → take (length body) (drop (length (spelled front) + 5) (spelled (front ++ body ∷ back) ++ behind)) ≡ body
body_there front body back behind =
    let rest : List ℕ = body ++ (spelled back ++ behind) in
    let whole : spelled (front ++ body ∷ back) ++ behind ≡ spelled front ++ 1 ∷ (size_bytes (length body) ++ rest) = ap (λ list. list ++ behind) (spelled_append front (body ∷ back)) ∙ append_assoc (spelled front) (spelled (body ∷ back)) behind ∙ ap (λ tail. spelled front ++ 1 ∷ tail) (append_assoc (sized body) (spelled back) behind ∙ append_assoc (size_bytes (length body)) body (spelled back ++ behind)) in
    ap (λ list. take (length body) (drop (length (spelled front) + 5) list)) whole ∙ ap (take (length body)) (drop-append-add (spelled front) (1 ∷ (size_bytes (length body) ++ rest)) 5 ∙ drop_at (size_bytes (length body)) rest 4 (length-size_bytes (length body))) ∙ take_at body (spelled back ++ behind) (length body) refl

-- where the record of a number stands among the others: its body begins at `from` and ends at `end`
record Placed (bodies : List (List ℕ)) (number from end : ℕ) : Type 0 where
  split : bodies ≡ take number bodies ++ get_or bodies number [] ∷ drop (number + 1) bodies
  begins : from ≡ length (spelled (take number bodies)) + 5
  ends : end ≡ from + length (get_or bodies number [])

placed_at : (bodies : List (List ℕ)) (offsets : List ℕ) (gate number start end from : ℕ) → offsets ≡ starts 0 bodies → length (spelled bodies) ≡ gate → number < length offsets → start ≡ get_or offsets number 0 → end ≡ get_or (offsets ++ gate ∷ []) (number + 1) 0 → end < 2 ^ 64 → from ≡ min (start + 5) (2 ^ 64 - 1) → Placed bodies number from end
placed_at bodies offsets gate number start end from spelled_so place below starts_at ends_at fits begins =
    let body : List ℕ = get_or bodies number [] in
    let front : List (List ℕ) = take number bodies in
    let back : List (List ℕ) = drop (number + 1) bodies in
    let count : length offsets ≡ length bodies = ap length spelled_so ∙ length-starts 0 bodies in
    let split : bodies ≡ front ++ body ∷ back = sym (take-append-drop number bodies) ∙ ap (λ rest. front ++ rest) (drop_more bodies number [] (omega arith)) in
    let long : length front ≡ number = length-take-le number bodies (omega arith) in
    let start_so : start ≡ length (spelled front) = starts_at ∙ ap (λ list. get_or list number 0) (spelled_so ∙ ap (starts 0) split) ∙ ap (λ k. get_or (starts 0 (front ++ body ∷ back)) k 0) (sym long) ∙ start_is front body back in
    let end_so : end ≡ length (spelled front) + 5 + length body = ends_at ∙ ap (λ list. get_or (list ++ gate ∷ []) (number + 1) 0) (spelled_so ∙ ap (starts 0) split) ∙ ap (λ k. get_or (starts 0 (front ++ body ∷ back) ++ gate ∷ []) (k + 1) 0) (sym long) ∙ end_is front body back gate (sym place ∙ ap (λ list. length (spelled list)) split) in
    record { split = split; begins = omega arith; ends = omega arith }

-- what a read of that place gives, and that it lies within the file
pub body_at : (bodies : List (List ℕ)) (offsets seen behind : List ℕ) (gate number start end from : ℕ) → offsets ≡ starts 0 bodies → length (spelled bodies) ≡ gate → seen ≡ spelled bodies ++ behind → number < length offsets → start ≡ get_or offsets number 0 → end ≡ get_or (offsets ++ gate ∷ []) (number + 1) 0 → end < 2 ^ 64 → from ≡ min (start + 5) (2 ^ 64 - 1) → take (end - from) (drop from seen) ≡ get_or bodies number []
body_at bodies offsets seen behind gate number start end from spelled_so place is below starts_at ends_at fits begins =
    let body : List ℕ = get_or bodies number [] in
    let front : List (List ℕ) = take number bodies in
    let back : List (List ℕ) = drop (number + 1) bodies in
    let there = placed_at bodies offsets gate number start end from spelled_so place below starts_at ends_at fits begins in
    let size_so : end - from ≡ length body = omega (arith, there.ends) in
    ap (λ n. take n (drop from seen)) size_so ∙ ap (λ n. take (length body) (drop n seen)) there.begins ∙ ap (λ list. take (length body) (drop (length (spelled front) + 5) list)) (is ∙ ap (λ list. spelled list ++ behind) there.split) ∙ body_there front body back behind

pub body_within : (bodies : List (List ℕ)) (offsets seen behind : List ℕ) (gate number start end from : ℕ) → offsets ≡ starts 0 bodies → length (spelled bodies) ≡ gate → seen ≡ spelled bodies ++ behind → number < length offsets → start ≡ get_or offsets number 0 → end ≡ get_or (offsets ++ gate ∷ []) (number + 1) 0 → end < 2 ^ 64 → from ≡ min (start + 5) (2 ^ 64 - 1) → from + (end - from) ≤ length seen
body_within bodies offsets seen behind gate number start end from spelled_so place is below starts_at ends_at fits begins =
    let body : List ℕ = get_or bodies number [] in
    let front : List (List ℕ) = take number bodies in
    let back : List (List ℕ) = drop (number + 1) bodies in
    let there = placed_at bodies offsets gate number start end from spelled_so place below starts_at ends_at fits begins in
    let whole : length (spelled bodies) ≡ length (spelled front) + length (spelled (body ∷ back)) = ap (λ list. length (spelled list)) there.split ∙ ap length (spelled_append front (body ∷ back)) ∙ length-append (spelled front) (spelled (body ∷ back)) in
    omega (arith, there.begins, there.ends, whole, length-append (sized body) (spelled back), length-sized body, ap length is, length-append (spelled bodies) behind)

pub if_ok_map : {T E : Type 0} (r : Result T E) (P Q : T → Type 0) → IfOk r P → ((x : T) → P x → Q x) → IfOk r Q
if_ok_map (Ok x) P Q p map = map x p
if_ok_map (Err x) P Q p map = tt
