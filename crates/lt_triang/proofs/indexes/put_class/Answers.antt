use Rattle.std.proofs.Common.{arith, ◌<◌, length, add-one}
use Rattle.lt_triang.specs.Indexed.{buckets_of}
use Rattle.lt_triang.proofs.Indices.{index_grows, index_turns}
use Rattle.lt_triang.proofs.indexes.put_class.Goals as goal

pub loop-j-preserved : goal.loop-j-preserved
loop-j-preserved c =
    let bs = buckets_of c.loop-j.buckets.items in
    let l : c.bucket_of-bucket.result < length bs = omega (arith, c.loop-j.invariant.count, c.bucket_of-bucket.ensures.within) in
    rw (add-one c.loop-j.j)
    (index_grows c.args.d c.args.classes.now c.args.n c.loop-j.j c.bucket_of-bucket.result bs (buckets_of c.put.new.buckets.items) (omega (arith, c.loop-j-test.true)) l c.bucket_of-bucket.ensures.value c.in_ok-put.ensures c.loop-j.invariant)

pub returns : goal.returns
returns c = index_turns c.args.d c.args.classes.now c.args.n c.loop-j.j (buckets_of c.loop-j.buckets.items) (omega (arith, c.loop-j-test.false)) c.loop-j.invariant
