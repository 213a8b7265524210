-- The stated statements, from what their parts are.
use Rattle.std.proofs.Common.{◌≡◌, ℕ, ◌≤◌, ◌/◌, ◌%◌, true, List, [], ◌∷◌, ◌++◌, length, Result, Ok, Err, IfOk, refl, sym, ap, ◌∙◌, subst, arith}
use Rattle.std.specs.Str.{is_utf8}
use Rattle.sha2.specs.Sha256.{sha256}
use Rattle.sha2.proofs.Facts256.{length-sha256}
use Rattle.lms_ots.specs.Words.{u32str}
use Rattle.lms_tree.specs.declared.types.Level.{Level}
use Rattle.hss_keys.specs.Levels.{capacity}
use Rattle.hss_keys.specs.Signers.{SignerKey}
use Rattle.cbor_core.specs.Exact.{strict_text}
use Rattle.policy_rules.specs.declared.conditions.Cond.{Cond}
use Rattle.policy_rules.specs.declared.conditions.CondNode.TheVariants.{All}
use Rattle.policy_rules.specs.Spelling.{policy_item}
use Rattle.scitt_draft.specs.Drafts.{Claims, statement_by}
use Rattle.scitt_draft.specs.Named.{id_of, seed_of, governor_levels, issuer_levels, public_of, holder_of, IsKeyOf, IsShort}
use Rattle.scitt_draft.specs.Stated.{governor, issuer, issuer_holder, cond_of, policy, policy_claims, policy_statement, claims_of, statement}

pub ok_is : {A E : Type 0} (r : Result A E) (x y : A) → x ≡ y → IfOk r (λ a. a ≡ x) → IfOk r (λ a. a ≡ y)
ok_is {A = A} r x y e of = subst (λ (k : A). IfOk r (λ a. a ≡ k)) e of

-- a signer that was made of a name is that of its key
pub made_key : (s : SignerKey) (levels own : List Level) (name mine : List ℕ) → levels ≡ own → name ≡ mine
    → s ≡ record { levels = levels; id = id_of name; seed = seed_of name; prepared = 0 } → IsKeyOf own mine s
made_key s levels own name mine a b e = record {
  levels_are = ap (λ (k : SignerKey). k.levels) e ∙ a;
  id = ap (λ (k : SignerKey). k.id) e ∙ ap id_of b;
  seed = ap (λ (k : SignerKey). k.seed) e ∙ ap seed_of b;
}

pub is_key : {E : Type 0} (r : Result SignerKey E) (levels own : List Level) (name mine : List ℕ) → levels ≡ own → name ≡ mine
    → IfOk r (λ s. s ≡ record { levels = levels; id = id_of name; seed = seed_of name; prepared = 0 }) → IfOk r (IsKeyOf own mine)
is_key (Ok s) levels own name mine a b e = made_key s levels own name mine a b e
is_key (Err x) levels own name mine a b e = tt

pub key_from : (j n : ℕ) (s : SignerKey) → j % 3 ≡ n → IsKeyOf issuer_levels (issuer n) s → IsKeyOf issuer_levels (issuer (j % 3)) s
key_from j n s e key = subst (λ (m : ℕ). IsKeyOf issuer_levels (issuer m) s) (sym e) key

pub key_to : (j n : ℕ) (s : SignerKey) → j % 3 ≡ n → IsKeyOf issuer_levels (issuer (j % 3)) s → IsKeyOf issuer_levels (issuer n) s
key_to j n s e key = subst (λ (m : ℕ). IsKeyOf issuer_levels (issuer m) s) e key

pub is_issuer_holder : (levels : List Level) (name : List ℕ) (n : ℕ) → levels ≡ issuer_levels → name ≡ issuer n → holder_of levels name ≡ issuer_holder n
is_issuer_holder levels name n a b = λ i. holder_of (a i) (b i)

pub short_holder : (levels : List Level) (name : List ℕ) → is_utf8 name ≡ true → 1 ≤ length name → length name ≤ 1024 → length (public_of levels name) ≤ 60 → IsShort (holder_of levels name)
short_holder levels name utf8 some few key =
    let digest = length-sha256 (public_of levels name) in
    record { utf8 = utf8; some = some; iss = few; named = omega (arith, digest); kid = omega (arith, digest); key = key }

-- two conditions that were pushed
pub two_parts : (none one two : List Cond) (a b x y : Cond) → none ≡ [] → one ≡ none ++ a ∷ [] → two ≡ one ++ b ∷ [] → a ≡ x → b ≡ y → cond_of (All two) ≡ cond_of (All (x ∷ y ∷ []))
two_parts none one two a b x y empty first second is also =
    let begun : one ≡ x ∷ [] = first ∙ (λ i. empty i ++ is i ∷ []) in
    ap (λ (parts : List Cond). cond_of (All parts)) (second ∙ (λ i. begun i ++ also i ∷ []))

pub statement_is : (signer : SignerKey) (index : ℕ) (claims : Claims) (payload : List ℕ) (j : ℕ) → IsKeyOf issuer_levels (issuer (j % 3)) signer → index ≡ j / 3 → claims ≡ claims_of j
    → payload ≡ sha256 (u32str j) → statement_by signer.levels signer.id signer.seed index claims payload ≡ statement j
unfolding statement
statement_is signer index claims payload j key at says holds =
    λ i. statement_by (key.levels_are i) (key.id i) (key.seed i) (at i) (says i) (holds i)

pub policy_is : (signer : SignerKey) (claims : Claims) (payload : List ℕ) → IsKeyOf governor_levels governor signer → claims ≡ policy_claims → payload ≡ strict_text (policy_item policy)
    → statement_by signer.levels signer.id signer.seed 0 claims payload ≡ policy_statement
unfolding policy_statement
policy_is signer claims payload key says holds =
    λ i. statement_by (key.levels_are i) (key.id i) (key.seed i) 0 (says i) (holds i)

-- how many messages the keys sign
pub governor_signs : capacity governor_levels ≡ 32
unfolding capacity
governor_signs = refl

pub issuer_signs : capacity issuer_levels ≡ 1024
unfolding capacity
issuer_signs = refl
