-- What signing comes to.
use Rattle.std.proofs.Common.{◌≡◌, ◌+◌, ◌⊎◌, ℕ, min, Bool, List, Option, Some, None, Result, Ok, Err, IfOk, true, false, inl, inr, refl, ap, subst, le-leb}
use Rattle.std.specs.Prelude.{nat_le, ◌&&◌}
use Rattle.std.proofs.lemmas.Bool.{and_from, lt-leb}
use Rattle.lms_tree.specs.declared.types.Level.{Level}
use Rattle.scitt_disk.specs.Images.{Held}
use Rattle.scitt_disk.specs.Changes.{after_sync}
use Rattle.scitt_journal.specs.Layout.{RecordsOf}
use Rattle.hss_keys.specs.Levels.{capacity}
use Rattle.hss_keys.specs.Signers.{hss_sig_len}
use Rattle.key_store.specs.declared.records.KeyHead.{KeyHead}
use Rattle.key_store.specs.declared.stops.KeyStop.{KeyStop}
use Rattle.key_store.specs.declared.stops.KeyStop.TheVariants.{KeyExists, NoKey, Short as ShortKey, BadKeyFile, DiskFault, OutOfMemory}
use Rattle.key_store.specs.Records.{IsHead}
use Rattle.key_store.specs.Keys.{reserved_of, KeyStanding, IsSound}
use Rattle.key_store.specs.Stops.{ExplainsKey}
use Rattle.statement.specs.Statements.{most_logged}
use Rattle.scitt_tool.specs.declared.stops.ToolStop.{ToolStop}
use Rattle.scitt_tool.specs.declared.draft.Draft.{Draft}
use Rattle.scitt_tool.specs.Answer.{Answer}
use Rattle.scitt_draft.specs.Drafts.{Claims, names_fit, protected_by}
use Rattle.scitt_tool.specs.Keygen.{kid_of}
use Rattle.scitt_tool.specs.Outcome.{Kept, Keyed, KeyIs, IsOver}
use Rattle.scitt_tool.specs.Sign.{logged_len, fits, refused_claim, SignedBy, SignOf, NotLoaded}
use Rattle.scitt_tool.specs.Drafts.{DraftOf, Drafts, SignsNext}
use Rattle.scitt_tool.proofs.Keys.{is_key, key_is_synced}

and_no : (a b : Bool) → b ≡ false → (a && b) ≡ false
and_no true b e = e
and_no false b e = refl

no_and : (a b : Bool) → a ≡ false → (a && b) ≡ false
no_and true b e = cc
no_and false b e = refl

-- names that don't fit
pub unfit_names : (claims : Claims) (head : KeyHead) (payload : List ℕ) → names_fit claims ≡ false → fits claims head payload ≡ false
unfit_names claims head payload e =
    no_and (names_fit claims) (nat_le (logged_len (protected_by claims (kid_of head)) payload (hss_sig_len head.levels)) most_logged) e

-- a draft of claims whose names fit
pub drafts : (claims : Claims) (kid : List ℕ) (levels : List Level) (payload : List ℕ) (made : Option Draft) → names_fit claims ≡ true
    → DraftOf (protected_by claims kid) payload (hss_sig_len levels) made → Drafts claims kid levels payload made
drafts claims kid levels payload None names long =
    and_no (names_fit claims) (nat_le (logged_len (protected_by claims kid) payload (hss_sig_len levels)) most_logged) (lt-leb (logged_len (protected_by claims kid) payload (hss_sig_len levels)) most_logged long)
drafts claims kid levels payload (Some draft) names (draft_is, same, small) =
    (draft_is, same, and_from _ _ names (le-leb (logged_len (protected_by claims kid) payload (hss_sig_len levels)) most_logged small))

-- a limit is broken, and nothing was done
pub refused_over : (Tells : Type 0) (claims : Claims) (head : KeyHead) (next : ℕ) (payload : List ℕ) (held : Held) (answer : Answer) → fits claims head payload ≡ false → answer ≡ refused_claim
    → IsOver Tells (SignedBy claims head next payload) held held answer
refused_over Tells claims head next payload held answer unfit is =
    record { after = Kept; comes = inl (record { unfit = unfit; is = λ i. record { answer = is i; key = Kept } }); key = λ _. refl }

-- what was signed under the protected string of claims that fit
signed_over' : (Tells : Type 0) (claims : Claims) (head : KeyHead) (next : ℕ) (payload : List ℕ) (old new : Held) (answer : Answer) → fits claims head payload ≡ true
    → SignsNext Tells (protected_by claims (kid_of head)) head next payload new answer → IsOver Tells (SignedBy claims head next payload) old new answer
signed_over' Tells claims head next payload old new answer fit (inl none) =
    record {
      after = Keyed head next;
      comes = inr (inl (record { fit = fit; none = none.none; is = λ i. record { answer = none.is i; key = Keyed head next } }));
      key = none.kept;
    }
signed_over' Tells claims head next payload old new answer fit (inr one) =
    record {
      after = Keyed head (min (next + head.block) (capacity head.levels));
      comes = inr (inr (record {
        fit = fit;
        left = one.left;
        statement = one.says.statement;
        spelled = one.says.spelled;
        is = λ i. record { answer = one.says.is i; key = Keyed head (min (next + head.block) (capacity head.levels)) };
      }));
      key = one.reserves;
    }

pub signed_over : (Tells : Type 0) (claims : Claims) (head : KeyHead) (next : ℕ) (payload protected : List ℕ) (old new : Held) (result : Result Answer ToolStop) → fits claims head payload ≡ true
    → protected ≡ protected_by claims (kid_of head) → IfOk result (SignsNext Tells protected head next payload new) → IfOk result (IsOver Tells (SignedBy claims head next payload) old new)
signed_over Tells claims head next payload protected old new (Err stop) fit is signs = tt
signed_over Tells claims head next payload protected old new (Ok answer) fit is signs =
    signed_over' Tells claims head next payload old new answer fit (subst (λ (p : List ℕ). SignsNext Tells p head next payload new answer) is signs)

-- a key file was loaded, and what was signed by it
loaded_over' : (Tells : Type 0) (claims : Claims) (payload : List ℕ) (head : KeyHead) (S : KeyStanding) (old mid new : Held) (answer : Answer) → IsHead head
    → (Tells → (rest : ℕ) × RecordsOf old.seen S.records rest) → (Tells → IsSound head S) → (Tells → S.next ≡ reserved_of S.records) → (Tells → mid ≡ after_sync old)
    → IsOver Tells (SignedBy claims head S.next payload) mid new answer → IsOver Tells (SignOf Tells claims old.seen payload) old new answer
loaded_over' Tells claims payload head S old mid new answer limits are sound last synced over =
    record {
      after = over.after;
      comes = inr (inr (inr (record {
        head = head;
        next = S.next;
        limits = limits;
        file = λ tells. (let found = are tells in is_key old.seen head S found.0 found.1 (sound tells) (last tells));
        signed = over.comes;
      })));
      key = λ tells. key_is_synced over.after old mid new (synced tells) (over.key tells);
    }

pub loaded_over : (Tells : Type 0) (claims : Claims) (payload : List ℕ) (head : KeyHead) (S : KeyStanding) (old mid new : Held) (result : Result Answer ToolStop) → IsHead head
    → (Tells → (rest : ℕ) × RecordsOf old.seen S.records rest) → (Tells → IsSound head S) → (Tells → S.next ≡ reserved_of S.records) → (Tells → mid ≡ after_sync old)
    → IfOk result (IsOver Tells (SignedBy claims head S.next payload) mid new) → IfOk result (IsOver Tells (SignOf Tells claims old.seen payload) old new)
loaded_over Tells claims payload head S old mid new (Err stop) limits are sound last synced over = tt
loaded_over Tells claims payload head S old mid new (Ok answer) limits are sound last synced over =
    loaded_over' Tells claims payload head S old mid new answer limits are sound last synced over

-- nothing was written
pub kept : (Tells : Type 0) (old new : Held) → (Tells → (new ≡ old) ⊎ (new ≡ after_sync old)) → Tells → KeyIs Kept old new
kept Tells old new written tells =
    elim (written tells) [ inl same ↦ ap (λ (h : Held). h.seen) same | inr synced ↦ ap (λ (h : Held). h.seen) synced ]

-- none was loaded
pub unloaded_over : (Tells : Type 0) (claims : Claims) (payload : List ℕ) (old new : Held) (before now : ℕ) (why : KeyStop) (result : Result Answer ToolStop) → ExplainsKey Tells old.seen before now why
    → NotLoaded why result → (Tells → (new ≡ old) ⊎ (new ≡ after_sync old)) → IfOk result (IsOver Tells (SignOf Tells claims old.seen payload) old new)
unloaded_over Tells claims payload old new before now why (Err stop) cause said written = tt
unloaded_over Tells claims payload old new before now NoKey (Ok answer) cause said written =
    record { after = Kept; comes = inl (record { none = cause.0; is = λ i. record { answer = said i; key = Kept } }); key = kept Tells old new written }
unloaded_over Tells claims payload old new before now (ShortKey at) (Ok answer) cause said written =
    record { after = Kept; comes = inr (inl (record { at = at; cut = cause.0; is = λ i. record { answer = said i; key = Kept } })); key = kept Tells old new written }
unloaded_over Tells claims payload old new before now (BadKeyFile number) (Ok answer) cause said written =
    record { after = Kept; comes = inr (inr (inl (record { number = number; bad = cause.0; is = λ i. record { answer = said i; key = Kept } }))); key = kept Tells old new written }
unloaded_over Tells claims payload old new before now KeyExists (Ok answer) cause said written = absurd said
unloaded_over Tells claims payload old new before now DiskFault (Ok answer) cause said written = absurd said
unloaded_over Tells claims payload old new before now OutOfMemory (Ok answer) cause said written = absurd said
