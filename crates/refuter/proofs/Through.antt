-- A block is looked at by the values of its first sorts.
use Rattle.std.proofs.Common.{◌≡◌, ℕ, ◌*◌, ◌≤◌, List, [], ◌∷◌, ◌++◌, Bool, true, false, ap, sym, ◌∙◌, subst, arith}
use Rattle.std.proofs.Common.{append_assoc, length, length-append, take, drop}
use Rattle.std.specs.Prelude.{slice_get}
use Rattle.std.specs.List.{Contains, flat_map}
use Rattle.std.proofs.lemmas.Grind.{flat_map-append}
use Rattle.std.proofs.lemmas.List.{append-nil}
use Rattle.term_core.specs.Tree.{Tree, trees_of}
use Rattle.term_core.specs.declared.ids.SortId.{SortId}
use Rattle.term_core.proofs.Members.{in_contained, contained_in}
use Rattle.spec_core.specs.declared.records.Spec.{Spec}
use Rattle.spec_core.specs.declared.records.Goal.{Goal}
use Rattle.spec_core.specs.WellSorted.{sorts_of}
use Rattle.value_bank.specs.Cells.{Cell, AreTerms, AddsCells}
use Rattle.value_bank.proofs.Terms.{terms_kept}
use Rattle.rule_code.proofs.Testing.{terms_count}
use Rattle.refuter.specs.declared.parts.Look.{Look}
use Rattle.refuter.specs.declared.parts.Look.TheVariants.{Whole}
use Rattle.refuter.specs.declared.parts.Tally.{Tally}
use Rattle.refuter.specs.Bounded.{rows_within}
use Rattle.refuter.specs.After.{rows_after}
use Rattle.refuter.specs.Moves.{GoesOn}
use Rattle.refuter.specs.Blocks.{rows_of, block, IsBegun}
use Rattle.refuter.specs.Looks.{LooksOver}
use Rattle.refuter.proofs.Blocks.{block_parted, joined_in}
use Rattle.refuter.proofs.Looks.{looks_none, looks_more, looks_before}
use Rattle.refuter.proofs.Progress.{Here, IsAt, whole, starts, moves, here, none_left, parted_terms}
use Rattle.refuter.proofs.Steps.{at_places}

module _ (spec : Spec) (goal : Goal) (budget tries depth bound : ℕ) where
  -- the first values of a row are fixed; this many rows of the next sorts are done, and the walk is at the others
  pub record Through (firsts others : List SortId) (begun cells : List Cell) (old places : List ℕ) (start : ℕ)
      (before after : Tally) (more : Bool) : Type 0 where
    pub values : List Tree
    pub sorts : List SortId
    pub parted : sorts ++ (firsts ++ others) ≡ sorts_of goal.vars
    pub listed : Contains (rows_of spec.sig depth sorts) values
    pub first : AreTerms begun old (trees_of values)
    pub long : length values ≡ start
    pub done : List (List Tree)
    pub rest : List (List Tree)
    pub apart : rows_of spec.sig depth firsts ≡ done ++ rest
    pub at : IsAt spec.sig cells depth firsts bound rest values places more
    pub looked : LooksOver spec goal budget tries (flat_map (λ q. block spec.sig depth (values ++ q) others)
        done) before after Whole

  module _ (firsts others : List SortId) where
    -- there is room for all values
    pub room_for : (sorts : List SortId) → bound ≡ 255 * length (sorts_of goal.vars) →
        sorts ++ (firsts ++ others) ≡ sorts_of goal.vars → 255 * length firsts ≤ bound
    room_for sorts b e =
        let k : length (sorts ++ (firsts ++ others)) ≡ length (sorts_of goal.vars) = ap (λ xs. length xs) e in
        let l = length-append sorts (firsts ++ others) in
        let m = length-append firsts others in
        omega arith

    pub through_starts : (begun cells : List Cell) (old places : List ℕ) (start : ℕ) (tally : Tally)
        (more : Bool) (values : List Tree) →
        IsBegun spec.sig depth (sorts_of goal.vars) begun old (firsts ++ others) values →
        bound ≡ 255 * length (sorts_of goal.vars) → length old ≡ start → tally.tried ≤ tries →
        AddsCells begun cells → GoesOn cells old (slice_get (rows_within spec.sig depth firsts bound) 0) places
        more → Through firsts others begun cells old places start tally tally more
    through_starts begun cells old places start tally more values h b l t adds g =
        record {
          values = values;
          sorts = h.sorts;
          parted = h.parted;
          listed = h.listed;
          first = h.stand;
          long = terms_count begun old values h.stand ∙ l;
          done = [];
          rest = rows_within spec.sig depth firsts bound;
          apart = sym (whole spec.sig depth firsts bound (room_for h.sorts b h.parted));
          at = starts spec.sig cells depth firsts bound values old places more
              (terms_kept begun cells old (trees_of values) adds h.stand) g;
          looked = looks_none spec goal budget tries tally t;
        }

    module _ (begun cells : List Cell) (old places : List ℕ) (start : ℕ) (before after : Tally) (more : Bool)
        (b : bound ≡ 255 * length (sorts_of goal.vars)) (go : more ≡ true)
        (t : Through firsts others begun cells old places start before after more) where
      -- the row that the walk is at
      pub row_here : Here spec.sig cells depth firsts bound t.rest t.values places
      row_here = here spec.sig cells depth firsts bound t.rest t.values places more go t.at

      pub begun_here : IsBegun spec.sig depth (sorts_of goal.vars) cells places others (t.values ++ row_here.row)
      begun_here =
          let listed = subst (λ rows. Contains rows row_here.row)
          (whole spec.sig depth firsts bound (room_for t.sorts b t.parted)) row_here.listed in
          record {
            sorts = t.sorts ++ firsts;
            parted = append_assoc t.sorts firsts others ∙ t.parted;
            listed = contained_in _ _ (joined_in spec.sig depth t.sorts firsts t.values row_here.row
                (in_contained _ _ t.listed) (in_contained _ _ listed));
            stand = row_here.stand;
          }

      -- the blocks up to this one
      blocks_so_far : flat_map (λ q. block spec.sig depth (t.values ++ q) others)
          (t.done ++ row_here.row ∷ []) ≡ flat_map (λ q. block spec.sig depth (t.values ++ q) others) t.done
          ++ block spec.sig depth (t.values ++ row_here.row) others
      blocks_so_far =
          flat_map-append (λ q. block spec.sig depth (t.values ++ q) others) t.done (row_here.row ∷ [])
          ∙ ap (λ xs. flat_map (λ q. block spec.sig depth (t.values ++ q) others) t.done ++ xs)
          (append-nil (block spec.sig depth (t.values ++ row_here.row) others))

      -- the places of the values, after the block was looked at
      pub places_here : (now : List Cell) (ps : List ℕ) →
          AreTerms now ps (trees_of (t.values ++ row_here.row)) →
          (start ≤ length ps) × AreTerms now (take start ps) (trees_of t.values)
          × AreTerms now (drop start ps) (trees_of row_here.row)
      places_here now ps h = subst (λ n. (n ≤ length ps) × AreTerms now (take n ps) (trees_of t.values)
          × AreTerms now (drop n ps) (trees_of row_here.row)) t.long (parted_terms now ps t.values row_here.row h)

      pub through_moves : (mid now : List Cell) (stood new : List ℕ) (last : Tally) (again : Bool) →
          AreTerms mid stood (trees_of (t.values ++ row_here.row)) → AddsCells mid now →
          LooksOver spec goal budget tries (block spec.sig depth (t.values ++ row_here.row) others) after last
          Whole → GoesOn now (take start stood) (slice_get (rows_after spec.sig depth firsts bound row_here.row)
          0) new again → Through firsts others begun now old new start before last again
      through_moves mid now stood new last again h adds look g =
          record {
            values = t.values;
            sorts = t.sorts;
            parted = t.parted;
            listed = t.listed;
            first = t.first;
            long = t.long;
            done = t.done ++ row_here.row ∷ [];
            rest = rows_after spec.sig depth firsts bound row_here.row;
            apart = t.apart ∙ ap (λ xs. t.done ++ xs) row_here.is
                ∙ sym (append_assoc t.done (row_here.row ∷ []) (rows_after spec.sig depth firsts bound row_here.row));
            at = moves spec.sig now depth firsts bound t.values row_here.row (take start stood) new again
                row_here.listed (terms_kept mid now (take start stood) (trees_of t.values) adds
                (places_here mid stood h).1) g;
            looked = subst (λ rows. LooksOver spec goal budget tries rows before last Whole) (sym blocks_so_far)
                (looks_more spec goal budget tries _ _ before after last Whole t.looked look);
          }

      pub through_stops : (last : Tally) (look : Look) → (look ≡ Whole → ⊥) →
          LooksOver spec goal budget tries (block spec.sig depth (t.values ++ row_here.row) others) after last
          look → (vs : List Tree) → AreTerms begun old (trees_of vs) →
          LooksOver spec goal budget tries (block spec.sig depth vs (firsts ++ others)) before last look
      through_stops last look n h =
          let F : List Tree → List (List Tree) = λ q. block spec.sig depth (t.values ++ q) others in
          let rest = rows_after spec.sig depth firsts bound row_here.row in
          let rows : rows_of spec.sig depth firsts ≡ (t.done ++ row_here.row ∷ []) ++ rest = t.apart
          ∙ ap (λ xs. t.done ++ xs) row_here.is ∙ sym (append_assoc t.done (row_here.row ∷ []) rest) in
          let all : block spec.sig depth t.values (firsts ++ others) ≡ (flat_map F t.done ++ F row_here.row)
          ++ flat_map F rest = block_parted spec.sig depth t.values firsts others
          ∙ ap (λ xs. flat_map F xs) rows ∙ flat_map-append F (t.done ++ row_here.row ∷ []) rest
          ∙ ap (λ xs. xs ++ flat_map F rest) blocks_so_far in
          at_places begun old (λ vs. LooksOver spec goal budget tries
          (block spec.sig depth vs (firsts ++ others)) before last look) t.values t.first
          (subst (λ xs. LooksOver spec goal budget tries xs before last look) (sym all)
          (looks_before spec goal budget tries _ (flat_map F rest) before last look n
          (looks_more spec goal budget tries _ _ before after last look t.looked h)))

    pub through_ends : (begun cells : List Cell) (old places : List ℕ) (start : ℕ) (before after : Tally)
        (more : Bool) → more ≡ false → Through firsts others begun cells old places start before after more →
        (vs : List Tree) → AreTerms begun old (trees_of vs) →
        LooksOver spec goal budget tries (block spec.sig depth vs (firsts ++ others)) before after Whole
    through_ends begun cells old places start before after more e t =
        let F : List Tree → List (List Tree) = λ q. block spec.sig depth (t.values ++ q) others in
        let none = none_left spec.sig cells depth firsts bound t.rest t.values places more e t.at in
        let rows : rows_of spec.sig depth firsts ≡ t.done = t.apart ∙ ap (λ xs. t.done ++ xs) none.0
        ∙ append-nil t.done in
        let all : block spec.sig depth t.values (firsts ++ others) ≡ flat_map F t.done = block_parted spec.sig
        depth t.values firsts others ∙ ap (λ xs. flat_map F xs) rows in
        at_places begun old (λ vs. LooksOver spec goal budget tries (block spec.sig depth vs (firsts ++ others))
        before after Whole) t.values t.first
        (subst (λ xs. LooksOver spec goal budget tries xs before after Whole) (sym all) t.looked)

    -- the first values are there again if no row is left
    pub through_stays : (begun cells : List Cell) (old places : List ℕ) (start : ℕ) (before after : Tally)
        (more : Bool) → more ≡ false → Through firsts others begun cells old places start before after more →
        (vs : List Tree) → AreTerms begun old (trees_of vs) → AreTerms cells places (trees_of vs)
    through_stays begun cells old places start before after more e t =
        at_places begun old (λ vs. AreTerms cells places (trees_of vs)) t.values t.first
        (none_left spec.sig cells depth firsts bound t.rest t.values places more e t.at).1
