use Rattle.scitt_script.proofs.Late.{keeps_late}
use Rattle.scitt_script.proofs.clock.ScriptClockClock.now.Goals as goal

pub invariant_of-self : goal.invariant_of-self
invariant_of-self c =
    keeps_late _ c.self.inside.clock c.now.new.self c.now.result c.self.invariant c.now.ensures.listed c.now.ensures.counted c.now.ensures.refused c.now.ensures.ticks
