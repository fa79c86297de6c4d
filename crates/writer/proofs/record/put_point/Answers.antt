-- x and y take 8 bytes each, and z, where there is one, 8.
use Rattle.writer.proofs.StoreLaws.{point-stored}
use Rattle.writer.proofs.record.put_point.Goals as goal

pub returns : goal.returns
returns c =
    let t = c.args.t.now in
    point-stored c.args.out.now c.write_doubles.new.out c.write_doubles-2.new.out c.write_doubles-3.new.out _ t.xs.now t.ys.now t.zs.now t.ms.now
    c.requires.0 c.requires.1
    c.write_doubles.ensures c.write_doubles-2.ensures c.write_doubles-3.ensures c.write_doubles-4.ensures
