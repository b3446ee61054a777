-- What is put before the last byte leaves room for it.
use Rattle.std.proofs.Common.{arith}
use Rattle.text.specs.Puts.{length_fields}
use Rattle.text.proofs.writing.put_line.Goals as goal

pub put_byte-requires : goal.put_byte-requires
put_byte-requires c = omega (arith, length_fields)
