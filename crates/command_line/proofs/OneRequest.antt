-- Words ask for one task on one file at most, or for one number of goals.
use Rattle.std.proofs.Common.{◌≡◌, ◌∙◌, ap, ap₂, sym, subst, ℕ, Bool, List, Some, Option, codes, refl}
use Rattle.std.specs.Prelude.{◌↔◌, IsTrue, unwrap_or, true, false}
use Rattle.std.specs.Str.Parse.{digits_value, without_leading_plus}
use Rattle.clap.specs.Words.{App, Row, Text, matches_of}
use Rattle.command_line.specs.declared.ranges.NumberRange.{NumberRange}
use Rattle.command_line.specs.declared.bounds.SearchBounds.{SearchBounds}
use Rattle.command_line.specs.declared.bounds.ProofBounds.{ProofBounds}
use Rattle.command_line.specs.Matches.{HasNumber, HasWord}
use Rattle.command_line.specs.Tasks.{Task, refuting, proving, evaluating, checking, replaying, upgrading}
use Rattle.command_line.specs.Tasks.{trimming, carrying_out, app_for, Say, AreBounds, AreProofBounds, Asks}
use Rattle.command_line.specs.Tasks.{AsksToLoad}
use Rattle.command_line.proofs.OwnNames.{differs}
use Rattle.command_line.proofs.Askings.{no_task_loads}
use Rattle.command_line.proofs.Entries.{one_name}

pub one_text : (o : Option Text) (s t : Text) → o ≡ Some s → o ≡ Some t → s ≡ t
one_text o s t is is_too = ap (λ (x : Option Text). unwrap_or x s) (sym is ∙ is_too)

pub one_number : (rows : List Row) (name : Text) (range : NumberRange) (n m : ℕ) → HasNumber rows name range n →
    HasNumber rows name range m → n ≡ m
one_number rows name range n m is is_too =
    let same = one_text _ is.text is_too.text is.found is_too.found in
    sym is.writes.value ∙ (ap (λ (text : Text). digits_value 10 (without_leading_plus text)) same ∙ is_too.writes.value)

pub one_flag : (P : Type 0) (a b : Bool) → IsTrue a ↔ P → IsTrue b ↔ P → a ≡ b
one_flag P true b is is_too = sym (is_too.1 (is.0 refl))
one_flag P false true is is_too = is.1 (is_too.0 refl)
one_flag P false false is is_too = refl

one_bounds : (rows : List Row) (a b : SearchBounds) → AreBounds rows a → AreBounds rows b → a ≡ b
one_bounds rows a b are are_too =
    let depth = one_number rows _ _ a.depth b.depth are.depth are_too.depth in
    let tries = one_number rows _ _ a.tries b.tries are.tries are_too.tries in
    let steps = one_number rows _ _ a.steps b.steps are.steps are_too.steps in
    rw (depth, tries, steps) refl

pub one_proof_bounds : (rows : List Row) (a b : ProofBounds) → AreProofBounds rows a → AreProofBounds rows b → a ≡ b
one_proof_bounds rows a b are are_too =
    let search_too = one_bounds rows a.search b.search are.search are_too.search in
    let plain = one_number rows _ _ a.plain b.plain are.plain are_too.plain in
    let nodes = one_number rows _ _ a.nodes b.nodes are.nodes are_too.nodes in
    rw (search_too, plain, nodes) refl

-- two tasks whose commands have one name are read by one command, and matches say only one of them
one_kind : (task another : Task) → (app_for task).top.name ≡ (app_for another).top.name
    → (app_for task ≡ app_for another) × ((rows : List Row) → Say rows task → Say rows another → task ≡ another)
one_kind (refuting a) (refuting b) same = (refl, (λ rows is is_too. ap refuting (one_bounds rows a b is is_too)))
one_kind (proving a) (proving b) same = (refl, (λ rows is is_too. ap proving (one_proof_bounds rows a b is is_too)))
one_kind (evaluating s n) (evaluating t m) same =
    (refl, (λ rows is is_too. ap₂ evaluating (one_text _ s t is.0 is_too.0) (one_number rows _ _ n m is.1 is_too.1)))
one_kind (checking a) (checking b) same = (refl, (λ rows is is_too. ap checking (one_flag _ a b is is_too)))
one_kind (replaying s) (replaying t) same = (refl, (λ rows is is_too. ap replaying (one_text _ s t is is_too)))
one_kind upgrading upgrading same = (refl, (λ rows is is_too. refl))
one_kind (trimming s) (trimming t) same = (refl, (λ rows is is_too. ap trimming (one_text _ s t is is_too)))
one_kind (carrying_out s) (carrying_out t) same =
    (refl, (λ rows is is_too. ap carrying_out (one_text _ s t is is_too)))
one_kind task another same = absurd (differs (app_for task).top.name (app_for another).top.name refl same)

pub one_task :
    (words : List (List ℕ)) (file other : List ℕ) (task another : Task) → Asks words file task →
    Asks words other another → (file ≡ other) × (task ≡ another)
one_task words file other task another asks asks_too =
    let kind = one_kind task another (one_name words _ _ asks.named asks_too.named) in
    let back : matches_of (app_for another) words ≡ matches_of (app_for task) words = ap
    (λ (a : App). matches_of a words) (sym kind.0) in
    let file_too = subst (λ (r : List Row). HasWord r (codes "FILE") other) back asks_too.file_is in
    let task_too = subst (λ (r : List Row). Say r another) back asks_too.task_is in
    (one_text _ file other asks.file_is file_too, kind.1 _ asks.task_is task_too)

pub one_load :
    (words : List (List ℕ)) (goals others : ℕ) → AsksToLoad words goals →
    AsksToLoad words others → goals ≡ others
one_load words goals others asks asks_too =
    one_number _ _ _ goals others asks.goals_are asks_too.goals_are

pub not_both :
    (words : List (List ℕ)) (file : List ℕ) (task : Task) (goals : ℕ) → Asks words file task →
    AsksToLoad words goals → ⊥
not_both words file task goals asks loads =
    no_task_loads task (one_name words _ _ asks.named loads.named)
