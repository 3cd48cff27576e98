-- An error that is no want of memory comes only if the words have a fault.
use Rattle.std.proofs.Common.{◌≡◌, List, [], ◌∷◌, inl, inr}
use Rattle.clap.specs.Walk.{Text}
use Rattle.clap.specs.Simple.{App}
use Rattle.clap.specs.Faults.{fault_of}
use Rattle.clap.specs.Kinds.{HasKind, Kinds}
use Rattle.clap.specs.Values.{kind_of}
use Rattle.clap.specs.declared.error.Error.{Error}
use Rattle.clap.specs.declared.error.kind.ErrorKind.TheVariants.{OutOfMemory}
use Rattle.command_line.specs.Matches.{Takes}

none_among : (ks : Kinds) (e : Error) → ks ≡ [] → HasKind ks e → (kind_of e ≡ OutOfMemory → ⊥) → ⊥
none_among [] e is (inl h) other = other h
none_among [] e is (inr h) other = h
none_among (k ∷ ks) e is h other = cc

pub refused : (app : App) (words : List Text) (e : Error) → HasKind (fault_of app words) e →
    (kind_of e ≡ OutOfMemory → ⊥) → Takes app words → ⊥
refused app words e kinds other taken = none_among (fault_of app words) e taken kinds other
