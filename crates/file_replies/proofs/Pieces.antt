-- Pieces that are appended one after the other, and what is left if one is refused.
use Rattle.std.proofs.Common.{◌≡◌, ◌≤◌, ℕ, List, [], ◌++◌, Option, Some, None, inl, inr, subst, refl, ap, sym, ◌∙◌}
use Rattle.std.proofs.Common.{arith, length}
use Rattle.std.specs.Prelude.{Result, Ok, Err, IsErrAnd}
use Rattle.std.proofs.lemmas.List.{append-nil}
use Rattle.std.proofs.Math.Seq.{take-length}
use Rattle.io_core.specs.Count.{Rose}
use Rattle.io_core.specs.Piece.{Appended, AppendedPrefix}
use Rattle.io_core.specs.declared.faults.WriteError.{WriteError}
use Rattle.io_core.specs.declared.faults.WriteError.TheVariants as write
use Rattle.io_core.proofs.Pieces.{AppendedPrefix-append}
use Rattle.io_core.proofs.Counts.{Rose-after}
use Rattle.file_replies.specs.declared.stops.Stop.{Stop}
use Rattle.file_replies.specs.declared.stops.Stop.TheVariants.{ReadFault, WriteFault, OutOfMemory}
use Rattle.file_replies.specs.Parts.{AppendsPartOf}
use Rattle.file_replies.specs.Stops.{Stopped, stop_of}

pub nothing_appended : (old : Option (List ℕ)) → Appended old old []
nothing_appended None = refl
nothing_appended (Some w) = ap (λ x. Some x) (sym (append-nil w))

pub whole_prefix :
    (old new : Option (List ℕ)) (a : List ℕ) → Appended old new a → AppendedPrefix old new a
whole_prefix old new a p = (length a, omega arith, subst (λ x. Appended old new x) (sym (take-length a)) p)

-- a part of a text of one kind is one of another kind
pub part_of :
    (P Q : List ℕ → Type 0) (old new : Option (List ℕ)) → ((t : List ℕ) → P t → Q t) →
    AppendsPartOf P old new → AppendsPartOf Q old new
part_of P Q old new f (inl e) = inl e
part_of P Q old new f (inr p) = inr (p.0, f p.0 p.1, p.2)

-- a part of what follows a text is a part of both together
pub part_more :
    (P Q : List ℕ → Type 0) (old middle new : Option (List ℕ)) (a : List ℕ) → Appended old middle a → Q a →
    ((t : List ℕ) → P t → Q (a ++ t)) → AppendsPartOf P middle new → AppendsPartOf Q old new
part_more P Q old middle new a p q both (inl e) = inr (a, q, whole_prefix old new a (e ∙ p))
part_more P Q old middle new a p q both (inr r) =
    inr (a ++ r.0, both r.0 r.1, AppendedPrefix-append old middle new a r.0 p r.2)

pub stopped_more :
    (P Q : List ℕ → Type 0) (old middle new : Option (List ℕ)) (a : List ℕ) (i j k : ℕ) (stop : Stop) →
    i ≤ j → Appended old middle a → Q a → ((t : List ℕ) → P t → Q (a ++ t)) →
    Stopped middle new j k P stop → Stopped old new i k Q stop
stopped_more P Q old middle new a i j k ReadFault h p q both s = absurd s
stopped_more P Q old middle new a i j k WriteFault h p q both s =
    (Rose-after i j k h s.0, part_more P Q old middle new a p q both s.1)
stopped_more P Q old middle new a i j k OutOfMemory h p q both s =
    part_more P Q old middle new a p q both s

-- what the refusal of a piece leaves
pub piece_stopped :
    (IsText : List ℕ → Type 0) (old new : Option (List ℕ)) (writes writes' : ℕ) (piece : List ℕ)
    (error : WriteError) → IsText piece → AppendedPrefix old new piece →
    (◌≡◌ {A = Result Unit WriteError} (Err error) (Err write.Failed) → Rose writes writes') →
    Stopped old new writes writes' IsText (stop_of error)
piece_stopped IsText old new writes writes' piece write.Failed is p f = (f refl, inr (piece, is, p))
piece_stopped IsText old new writes writes' piece write.OutOfMemory is p f = inr (piece, is, p)

-- a fact on each error that a conversion may give
pub at_error :
    {A : Type 0} (Holds : Result A Stop → Type 0) (result : Result A Stop) (stop : Stop) →
    IsErrAnd result (λ s. s ≡ stop) → Holds (Err stop) → Holds result
at_error Holds (Ok a) stop e h = absurd e
at_error Holds (Err s) stop e h = subst (λ x. Holds (Err x)) (sym e) h

pub stopped_same :
    (P Q : List ℕ → Type 0) (old new : Option (List ℕ)) (i j : ℕ) (stop : Stop) →
    ((t : List ℕ) → P t → Q t) → Stopped old new i j P stop → Stopped old new i j Q stop
stopped_same P Q old new i j ReadFault f s = absurd s
stopped_same P Q old new i j WriteFault f s = (s.0, part_of P Q old new f s.1)
stopped_same P Q old new i j OutOfMemory f s = part_of P Q old new f s
