-- What holds of a file's bytes, and of several clauses of one answer.
use Rattle.std.proofs.Common.{◌≡◌, ◌⊎◌, ℕ, List, Some, None, Result, Ok, Err, IfOk, inl, inr, sym, subst}
use Rattle.scittd.specs.declared.fault.StartFault.{StartFault}
use Rattle.scittd.specs.declared.fault.StartFault.TheVariants.{WordsRefused, AddressRefused, NoMemory}
use Rattle.scittd.specs.Reading.{Told, OfFile}

pub of_content : (told : Told) (name bytes : List ℕ) (P : List ℕ → Type 0) → OfFile told name (λ content. content ≡ bytes) → P bytes → OfFile told name P
of_content None name bytes P read holds = tt
of_content (Some file_of) name bytes P (content, found, same) holds = (content, found, subst P (sym same) holds)

pub all_three : {X E : Type 0} (r : Result X E) (P Q S T : X → Type 0)
    → IfOk r P → IfOk r Q → IfOk r S → ((x : X) → P x → Q x → S x → T x) → IfOk r T
all_three (Ok x) P Q S T p q s then = then x p q s
all_three (Err e) P Q S T p q s then = tt

-- a refused address is none of the words
pub never_words : {X : Type 0} (r : Result X StartFault) (y fault : StartFault) → (fault ≡ AddressRefused) ⊎ (fault ≡ NoMemory) → y ≡ fault → r ≡ Err y → r ≡ Err WordsRefused → ⊥
never_words r y fault (inl address) same is refused = cc
never_words r y fault (inr memory) same is refused = cc
