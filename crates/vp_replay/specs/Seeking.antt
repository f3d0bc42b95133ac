-- How the first broken law is sought while a log is read: no public clause rests on this file.
use Rattle.std.specs.Prelude.{Option, Some, None}
use Rattle.vp_replay.specs.declared.rule.Broken.{Broken}

-- the law that was found, or else the one that is found later
abbrev pub sooner : Option Broken → Option Broken → Option Broken
sooner None later = later
sooner (Some b) later = Some b
