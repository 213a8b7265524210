-- The views of seats.
use Rattle.std.specs.Prelude.{ℕ, ◌+◌, ◌-◌, true, false, [], ◌∷◌}
use Rattle.turn_lock.specs.declared.view.View.{View}
use Rattle.turn_lock.specs.Told.{Told, longer}

-- a seat that hasn't the turn and has no notes
abbrev pub resting : ℕ → Told → View
resting weight seen = record { weight = weight; seen = seen; notes = []; turn = false; found = [] }

-- a seat that was joined with another
abbrev pub spent : View
spent = resting 0 []

-- it wins the turn, which finds this list
abbrev pub turning : View → Told → View
turning v found = record v { turn = true; found = found }

-- it gives the turn up, and has seen the list that it leaves
abbrev pub turned : View → Told → View
turned v left = resting v.weight left

-- a seat of weight 1 is split off
abbrev pub less : View → View
less v = record v { weight = v.weight - 1 }

-- two seats are joined: both lists are noted, since each begins the longer one
abbrev pub both : View → View → View
both v w = record v { weight = v.weight + w.weight; seen = longer v.seen w.seen; notes = v.seen ∷ w.seen ∷ [] }

-- what the notes say is known
abbrev pub looked : View → View
looked v = record v { notes = [] }
