use Rattle.std.proofs.Common.{arith, ◌≡◌, ◌<◌, ◌∙◌, [], length, get_or, sym, ap}
use Rattle.lt_triang.specs.Codes.{bucket_of}
use Rattle.std.specs.Prelude.{IfOk}
use Rattle.std.proofs.lemmas.Result.{IfOk-weaker}
use Rattle.lt_triang.specs.Indexed.{buckets_of}
use Rattle.lt_triang.specs.Walled.{IsFirstAnswer}
use Rattle.lt_triang.proofs.Indices.{bucket_at, index_places, first_of_all}
use Rattle.lt_triang.proofs.indexes.first_across.Goals as goal

pub first_in-requires-clause-facets : goal.first_in-requires-clause-facets
first_in-requires-clause-facets c =
    let b = c.bucket_of-bucket.result in
    let l : b < length (buckets_of c.args.index.now) = omega (arith, c.requires.index.count, c.bucket_of-bucket.ensures.within) in
    let e : c.as_slice-facets.result.now ≡ get_or (buckets_of c.args.index.now) b [] = c.as_slice-facets.ensures.value ∙ sym (bucket_at c.args.index.now b _ l c.index-index-bucket.is) in
    rw e (index_places c.args.d c.args.classes.now (buckets_of c.args.index.now) b c.requires.index)

pub returns : goal.returns
returns c =
    let b = c.bucket_of-bucket.result in
    let l : b < length (buckets_of c.args.index.now) = omega (arith, c.requires.index.count, c.bucket_of-bucket.ensures.within) in
    let e : c.as_slice-facets.result.now ≡ get_or (buckets_of c.args.index.now) (bucket_of c.args.classes.now c.args.n c.args.i) [] =
    c.as_slice-facets.ensures.value ∙ sym (bucket_at c.args.index.now b _ l c.index-index-bucket.is) ∙ ap (λ k. get_or (buckets_of c.args.index.now) k []) c.bucket_of-bucket.ensures.value in
    let t = c.args.classes.now in
    let fs = get_or (buckets_of c.args.index.now) (bucket_of t c.args.n c.args.i) [] in
    let h : IfOk c.first_in.result (IsFirstAnswer c.args.d t (get_or t c.args.n []) c.args.i fs) = rw e at c.first_in.ensures in
    IfOk-weaker c.first_in.result _ _ (first_of_all c.args.d t (buckets_of c.args.index.now) c.args.n c.args.i c.requires.members c.requires.index) h
