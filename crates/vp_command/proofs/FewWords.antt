-- More than six words are no command, whatever they are.
use Rattle.std.proofs.Common.{◌≡◌, List, [], ◌∷◌, take, refl}
use Rattle.std.specs.Prelude.{option_map}
use Rattle.vp_text.specs.Lines.{Word}
use Rattle.vp_command.specs.Commands.{command_of, task_of}
use Rattle.vp_command.specs.declared.command.Command.TheVariants.{Over}

task_of-take : (a b c d : Word) (more : List Word) → option_map Over (task_of a (take 5 (b ∷ c ∷ d ∷ more))) ≡ option_map Over (task_of a (b ∷ c ∷ d ∷ more))
unfolding task_of
task_of-take a b c d [] = refl
task_of-take a b c d (e ∷ []) = refl
task_of-take a b c d (e ∷ f ∷ more) = refl

pub command_of-take : (words : List Word) → command_of (take 6 words) ≡ command_of words
unfolding command_of
command_of-take [] = refl
command_of-take (a ∷ []) = refl
command_of-take (a ∷ b ∷ []) = refl
command_of-take (a ∷ b ∷ c ∷ []) = refl
command_of-take (a ∷ b ∷ c ∷ d ∷ more) = task_of-take a b c d more
