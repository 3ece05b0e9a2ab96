use Rattle.slices.proofs.Writes.{wrote_byte}
use Rattle.report_text.proofs.text.put_byte.Goals as goal

-- src/text.rt:10:1
pub returns : goal.returns
returns c = wrote_byte c.args.out.now c.args.at c.args.b c.requires
