use Rattle.std.proofs.Common.{rules}
use Rattle.outside_io.proofs.ByteLemmas.{put_more, use_more}
use Rattle.outside_io.proofs.write.write_all.Goals as goal

pub loop-at-preserved : goal.loop-at-preserved
loop-at-preserved g c =
    let sink = g.K.Sink in
    record {
      within = search rules;
      put = put_more (sink.held c.args.sink.now) (sink.held c.loop-at.sink) (sink.held c.put.new.self) c.args.bytes.now c.loop-at.at c.in_ok-at.field-0 c.loop-at.invariant.put c.in_ok-at.ensures.bytes;
      room = use_more (sink.room c.args.sink.now) (sink.room c.loop-at.sink) (sink.room c.put.new.self) c.loop-at.at c.in_ok-at.field-0 c.loop-at.invariant.room c.in_ok-at.ensures.room;
      faults = search rules;
      named = search rules;
      turns = search rules;
    }
