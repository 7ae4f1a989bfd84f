-- Which stops of a list a child that could not be run has made.
use Rattle.std.specs.Prelude.{Bool}
use Rattle.line_steps.specs.declared.pause.Pause.{Pause}

-- a child that could not be run made it stop
abbrev pub pause_failed : Pause → Bool
pause_failed pause = pause.stop.failed
