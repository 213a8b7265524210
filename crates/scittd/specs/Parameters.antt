-- What is no parameter file.
use Rattle.std.specs.Prelude.{◌<◌, ◌⊎◌, ℕ, List, length}
use Rattle.log_params.specs.declared.stop.ParamsStop.{ParamsStop}
use Rattle.log_params.specs.ParamFiles.{ParamsFault}

-- how many bytes a parameter file may have
abbrev pub longest : ℕ
longest = 16777216

-- too many bytes, or no parameter file
abbrev pub IsNoParams : List ℕ → Type 0
IsNoParams bytes = (longest < length bytes) ⊎ ((stop : ParamsStop) × ParamsFault bytes stop)
