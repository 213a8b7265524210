use Rattle.std.proofs.Common.{◌≡◌, List, [], ◌∷◌, ◌++◌, ℕ, None, refl}
use Rattle.std.specs.Prelude.{codes}
use Rattle.std.proofs.lemmas.Result.{err_from_is_err_and}
use Rattle.matchit.proofs.OnLiterals.{matchit_on_literals}
use Rattle.matchit.specs.Rows.{RowsOf}
use Rattle.matchit.specs.Router.{RouteOf, nearest, Refused}
use Rattle.matchit.specs.declared.error.InsertError.{InsertError}
use Rattle.matchit.specs.declared.error.InsertError.TheVariants.{Conflict, InvalidParam, InvalidParamSegment, InvalidCatchAll, OutOfMemory}
use Rattle.scitt_answers.specs.declared.routes.Row.{Row}
use Rattle.scitt_answers.specs.Routes.{table}
use Rattle.scitt_answers.proofs.routes.new_router.Goals as goal

-- where no route conflicts only memory can be wanting
no_conflict : (p : List ℕ) (rows : RowsOf (RouteOf Row)) (e : InsertError) → nearest p rows ≡ None → Refused p rows e → e ≡ OutOfMemory
no_conflict p rows (Conflict with) none h = absurd cc
no_conflict p rows OutOfMemory none h = refl
no_conflict p rows InvalidParamSegment none h = absurd h
no_conflict p rows InvalidParam none h = absurd h
no_conflict p rows InvalidCatchAll none h = absurd h

pub returns-in_err-insert-clause-memory : goal.returns-in_err-insert-clause-memory
unfolding matchit_on_literals
returns-in_err-insert-clause-memory c =
    let p = err_from_is_err_and c.from_residual.result c.from_residual.ensures.1 in
    let none : nearest (codes "/entries") c.new-router.result ≡ None = rw c.new-router.ensures refl in
    rw (p.1, p.2) (no_conflict (codes "/entries") c.new-router.result c.in_err-insert.field-0.0 none c.in_err-insert.ensures.1)

pub returns-in_err-insert-2-clause-memory : goal.returns-in_err-insert-2-clause-memory
unfolding matchit_on_literals
returns-in_err-insert-2-clause-memory c =
    let p = err_from_is_err_and c.from_residual-in_err-insert-2.result c.from_residual-in_err-insert-2.ensures.1 in
    let none : nearest (codes "/entries/" ++ 256 ∷ []) c.insert.new.self ≡ None = rw (c.in_ok-insert.ensures.1, c.new-router.ensures) refl in
    rw (p.1, p.2) (no_conflict (codes "/entries/" ++ 256 ∷ []) c.insert.new.self c.in_err-insert-2.field-0.0 none c.in_err-insert-2.ensures.1)

pub returns-in_err-insert-3-clause-memory : goal.returns-in_err-insert-3-clause-memory
unfolding matchit_on_literals
returns-in_err-insert-3-clause-memory c =
    let p = err_from_is_err_and c.from_residual-in_err-insert-3.result c.from_residual-in_err-insert-3.ensures.1 in
    let none : nearest (codes "/entries/" ++ (256 ∷ codes "/statement")) c.insert-2.new.self ≡ None = rw (c.in_ok-insert-2.ensures.1, c.in_ok-insert.ensures.1, c.new-router.ensures) refl in
    rw (p.1, p.2) (no_conflict (codes "/entries/" ++ (256 ∷ codes "/statement")) c.insert-2.new.self c.in_err-insert-3.field-0.0 none c.in_err-insert-3.ensures.1)

pub returns-in_err-insert-4-clause-memory : goal.returns-in_err-insert-4-clause-memory
unfolding matchit_on_literals
returns-in_err-insert-4-clause-memory c =
    let p = err_from_is_err_and c.from_residual-in_err-insert-4.result c.from_residual-in_err-insert-4.ensures.1 in
    let none : nearest (codes "/consistency/" ++ 256 ∷ []) c.insert-3.new.self ≡ None = rw (c.in_ok-insert-3.ensures.1, c.in_ok-insert-2.ensures.1, c.in_ok-insert.ensures.1, c.new-router.ensures) refl in
    rw (p.1, p.2) (no_conflict (codes "/consistency/" ++ 256 ∷ []) c.insert-3.new.self c.in_err-insert-4.field-0.0 none c.in_err-insert-4.ensures.1)

pub returns-in_err-insert-5-clause-memory : goal.returns-in_err-insert-5-clause-memory
unfolding matchit_on_literals
returns-in_err-insert-5-clause-memory c =
    let p = err_from_is_err_and c.from_residual-in_err-insert-5.result c.from_residual-in_err-insert-5.ensures.1 in
    let none : nearest (codes "/.well-known/scitt-keys") c.insert-4.new.self ≡ None = rw (c.in_ok-insert-4.ensures.1, c.in_ok-insert-3.ensures.1, c.in_ok-insert-2.ensures.1, c.in_ok-insert.ensures.1, c.new-router.ensures) refl in
    rw (p.1, p.2) (no_conflict (codes "/.well-known/scitt-keys") c.insert-4.new.self c.in_err-insert-5.field-0.0 none c.in_err-insert-5.ensures.1)

pub returns-in_err-insert-6-clause-memory : goal.returns-in_err-insert-6-clause-memory
unfolding matchit_on_literals
returns-in_err-insert-6-clause-memory c =
    let p = err_from_is_err_and c.from_residual-in_err-insert-6.result c.from_residual-in_err-insert-6.ensures.1 in
    let none : nearest (codes "/policy") c.insert-5.new.self ≡ None = rw (c.in_ok-insert-5.ensures.1, c.in_ok-insert-4.ensures.1, c.in_ok-insert-3.ensures.1, c.in_ok-insert-2.ensures.1, c.in_ok-insert.ensures.1, c.new-router.ensures) refl in
    rw (p.1, p.2) (no_conflict (codes "/policy") c.insert-5.new.self c.in_err-insert-6.field-0.0 none c.in_err-insert-6.ensures.1)

pub returns-clause-routes : goal.returns-clause-routes
unfolding matchit_on_literals table
returns-clause-routes c =
    rw (c.in_ok-insert-6.ensures.1, c.in_ok-insert-5.ensures.1, c.in_ok-insert-4.ensures.1, c.in_ok-insert-3.ensures.1, c.in_ok-insert-2.ensures.1, c.in_ok-insert.ensures.1, c.new-router.ensures) refl
