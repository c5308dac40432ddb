use Rattle.lt_triang.proofs.Indices.{bucket_put}
use Rattle.lt_triang.proofs.indexes.put.Goals as goal

pub returns : goal.returns
returns c = bucket_put c.args.buckets.now.items c.args.bucket c.index_mut.result.now c.push.new.self c.args.facet c.requires c.index_mut.ensures.value c.in_ok-push.ensures.items
