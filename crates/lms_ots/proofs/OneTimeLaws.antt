-- The key of a seed is the candidate key of its signatures.
use Rattle.std.proofs.Common.{◌≡◌, ℕ, zero, suc, ◌+◌, ◌-◌, ◌*◌, ◌^◌, ◌<◌, ◌≤◌, List, ◌++◌, length, Some, refl, ap, ◌∙◌, arith, append_assoc, length-append, nat_lt, false}
use Rattle.std.proofs.Math.Pow.{pow_pos}
use Rattle.sha2.specs.Sha256.{sha256}
use Rattle.sha2.proofs.Facts256.{length-sha256}
use Rattle.lms_ots.specs.declared.chains.OtsAt.{OtsAt}
use Rattle.lms_ots.specs.declared.parameters.OtsType.{OtsType}
use Rattle.lms_ots.specs.declared.parameters.OtsType.TheVariants.{W1, W2, W4, W8}
use Rattle.lms_ots.specs.Words.{u32str, u32_at, part, joined}
use Rattle.lms_ots.specs.Parameters.{parameters, type_of_code}
use Rattle.lms_ots.specs.Chains.{prefix, step, steps, secret, chain}
use Rattle.lms_ots.specs.Digits.{coef, digit, top}
use Rattle.lms_ots.specs.OneTime.{d_pblc, message_hash, key_of_ends, randomizer, ots_key, ots_sig, ots_candidate, front_type}
use Rattle.lms_ots.proofs.ChainLaws.{chain_whole}
use Rattle.lms_ots.proofs.PartLaws.{length-u32str, u32_at-u32str, part-behind, part-middle, length-joined, part-joined, joined_same}

length-step : (place : OtsAt) (i j : ℕ) (x : List ℕ) → length (step place i j x) ≡ 32
unfolding step
length-step place i j x = length-sha256 _

pub length-secret : (place : OtsAt) (i : ℕ) (seed : List ℕ) → length (secret place i seed) ≡ 32
unfolding secret
length-secret place i seed = length-sha256 _

length-steps : (place : OtsAt) (i j n : ℕ) (x : List ℕ) → length x ≡ 32 → length (steps place i j n x) ≡ 32
unfolding steps
length-steps place i j zero x h = h
length-steps place i j (suc n) x h = length-steps place i (suc j) n (step place i j x) (length-step place i j x)

coef_below : (s : List ℕ) (i w : ℕ) → coef s i w ≤ 2 ^ w - 1
unfolding coef
coef_below s i w =
    let some : 0 < 2 ^ w = pow_pos w in
    omega arith

-- the table's codes are found again
pub type_of_code-parameters : (kind : OtsType) → type_of_code (parameters kind).code ≡ Some kind
type_of_code-parameters W1 = refl
type_of_code-parameters W2 = refl
type_of_code-parameters W4 = refl
type_of_code-parameters W8 = refl

table_fits : (kind : OtsType) → ((parameters kind).code < 2 ^ 32) × ((parameters kind).sig_len ≡ 36 + 32 * (parameters kind).chains)
table_fits W1 = (omega arith, refl)
table_fits W2 = (omega arith, refl)
table_fits W4 = (omega arith, refl)
table_fits W8 = (omega arith, refl)

module _ (kind : OtsType) (place : OtsAt) (seed msg : List ℕ) where
  hash : List ℕ
  hash = message_hash place (randomizer place seed) msg

  signed : ℕ → List ℕ
  signed i = chain place i 0 (digit kind hash i) (secret place i seed)

  front : List ℕ
  front = u32str (parameters kind).code ++ randomizer place seed

  sig_is : ots_sig kind place seed msg ≡ front ++ joined signed (parameters kind).chains
  unfolding ots_sig hash signed front
  sig_is = refl

  length-signed : (i : ℕ) → length (signed i) ≡ 32
  unfolding signed
  length-signed i = length-steps place i 0 (digit kind hash i - 0) (secret place i seed) (length-secret place i seed)

  length-front : length front ≡ 36
  unfolding front
  length-front = omega (arith, length-append (u32str (parameters kind).code) (randomizer place seed), length-u32str (parameters kind).code, length-secret place 0xfffd seed)

  pub length-ots_sig : length (ots_sig kind place seed msg) ≡ (parameters kind).sig_len
  length-ots_sig =
      let rest = length-joined signed 32 (parameters kind).chains (λ i h. length-signed i) in
      rw sig_is (omega (arith, length-append front (joined signed (parameters kind).chains), length-front, rest, (table_fits kind).1))

  pub front_type-ots_sig : front_type (ots_sig kind place seed msg) ≡ Some kind
  unfolding front
  front_type-ots_sig =
      let enough : nat_lt (length (ots_sig kind place seed msg)) 4 ≡ false = search (arith, length-ots_sig) in
      let code : u32_at (ots_sig kind place seed msg) 0 ≡ (parameters kind).code =
      rw (sig_is, append_assoc) (u32_at-u32str (parameters kind).code _ (table_fits kind).0) in
      rw (enough, code) (type_of_code-parameters kind)

  randomizer_read : part (ots_sig kind place seed msg) 4 32 ≡ randomizer place seed
  unfolding front
  randomizer_read =
      rw sig_is (part-middle (u32str (parameters kind).code) (randomizer place seed) _ 4 32 (length-u32str _) (length-secret place 0xfffd seed))

  chain_read : (i : ℕ) → i < (parameters kind).chains → part (ots_sig kind place seed msg) (36 + 32 * i) 32 ≡ signed i
  chain_read i h =
      rw sig_is (part-behind front (joined signed (parameters kind).chains) 36 (32 * i) 32 length-front ∙ part-joined signed 32 (parameters kind).chains i (λ j k. length-signed j) h)

  same_ends : (f g : ℕ → List ℕ) → ((i : ℕ) → i < (parameters kind).chains → f i ≡ g i) → key_of_ends kind place f ≡ key_of_ends kind place g
  unfolding key_of_ends
  same_ends f g each = ap (λ xs. sha256 (prefix place d_pblc ++ xs)) (joined_same f g (parameters kind).chains each)

  -- the chain of a candidate key, under the randomizer c
  finished : List ℕ → ℕ → List ℕ
  finished c i =
      let q = message_hash place c msg in
      chain place i (digit kind q i) (top kind) (part (ots_sig kind place seed msg) (36 + 32 * i) 32)

  whole : ℕ → List ℕ
  whole i = chain place i 0 (top kind) (secret place i seed)

  finished_is : (i : ℕ) → i < (parameters kind).chains → finished (randomizer place seed) i ≡ whole i
  unfolding finished whole hash signed
  finished_is i h =
      let d = digit kind hash i in
      ap (λ x. chain place i d (top kind) x) (chain_read i h)
      ∙ chain_whole place i 0 d (top kind) (secret place i seed) (omega arith) (coef_below _ i (parameters kind).width)

  pub ots_candidate-ots_sig : ots_candidate kind place (ots_sig kind place seed msg) msg ≡ ots_key kind place seed
  unfolding ots_candidate ots_key finished whole
  ots_candidate-ots_sig =
      ap (λ c. key_of_ends kind place (finished c)) randomizer_read ∙ same_ends (finished (randomizer place seed)) whole finished_is
