-- What an answer that may be none says if it is known.
use Rattle.std.proofs.Common.{◌≡◌, Option, Some, None, MatchOption, subst}
use Rattle.std.specs.Option.{IfSome, IfNone}

pub at_none : {X : Type 0} (o : Option X) (P : Type 0) (Q : X → Type 0) → o ≡ None → MatchOption o P Q → P
at_none None P Q e h = h
at_none (Some x) P Q e h = absurd (let q : Some x ≡ None = e in cc)

pub at_some : {X : Type 0} (o : Option X) (P : Type 0) (Q : X → Type 0) (x : X) → o ≡ Some x → MatchOption o P Q → Q x
at_some None P Q x e h = absurd (let q : None ≡ Some x = e in cc)
at_some (Some y) P Q x e h = let q : Some y ≡ Some x = e in let k : y ≡ x = cc in subst Q k h

pub if_none_is : {X : Type 0} (o : Option X) (P : Type 0) → o ≡ None → IfNone o P → P
if_none_is None P e h = h
if_none_is (Some x) P e h = absurd (let q : Some x ≡ None = e in cc)

pub if_some_is : {X : Type 0} (o : Option X) (Q : X → Type 0) (x : X) → o ≡ Some x → IfSome o Q → Q x
if_some_is None Q x e h = absurd (let q : None ≡ Some x = e in cc)
if_some_is (Some y) Q x e h = let q : Some y ≡ Some x = e in let k : y ≡ x = cc in subst Q k h
