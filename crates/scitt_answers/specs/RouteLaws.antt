-- Laws of the routes.
use Rattle.std.specs.Prelude.{◌≡◌, ℕ, ◌⊎◌, List, [], ◌∷◌, Some}
use Rattle.matchit.specs.Rows.{RowsOf}
use Rattle.matchit.specs.Seek.{first}
use Rattle.matchit.specs.Router.{RouteOf}
use Rattle.scitt_answers.specs.declared.routes.Row.{Row}
use Rattle.scitt_answers.specs.Fits.{Fits}
use Rattle.scitt_answers.specs.Routes.{table, target_on, target_of}

abbrev pub IsRow : {K : Type 0} → RowsOf K → List ℕ → K → Type 0
IsRow [] t k = ⊥
IsRow ((u, j) ∷ rest) t k = ((u ≡ t) × (j ≡ k)) ⊎ IsRow rest t k

abbrev pub PathsFit : Type 0
PathsFit = (rows : RowsOf (RouteOf Row)) (path : List ℕ) (r : RouteOf Row) → first rows path ≡ Some r → (t : List ℕ) × IsRow rows t r × Fits t path

-- no path with a byte beyond ASCII has a target by the routes alone: the test on ASCII takes none away
abbrev pub PlainAlone : Type 0
PlainAlone = (path : List ℕ) → target_of path ≡ target_on (first table path) path
