use Rattle.std.proofs.Common.{rules, ◌≡◌, ◌+◌, ◌++◌, ◌∷◌, [], refl, ap, ◌∙◌, length, replicate}
use Rattle.std.proofs.lemmas.List.{length_push}
use Rattle.refuter.proofs.Counted.{zero_row, counts_pushed}
use Rattle.refuter.proofs.counting.Counts.none.Goals as goal

pub loop-sort-preserved : goal.loop-sort-preserved
loop-sort-preserved c =
    let is : c.push.new.self ≡ c.loop-sort.table ++ c.from_vec.result ∷ [] = search rules in
    let zeros : c.from_vec.result ≡ replicate 256 0 = search rules in
    let sig = c.args.sig.now in
    record {
      long = ap (λ xs. length xs) is ∙ length_push c.loop-sort.table c.from_vec.result
          ∙ ap (λ n. n + 1) c.loop-sort.invariant.long;
      each = counts_pushed sig 0 c.args.cap c.loop-sort._sort c.loop-sort.table c.push.new.self
          c.from_vec.result c.loop-sort.invariant.each c.loop-sort.invariant.long
          (zero_row sig c.args.cap 256 (record { 0 = c.loop-sort._sort }) c.from_vec.result refl zeros) is;
    }
