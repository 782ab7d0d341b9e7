use Rattle.std.proofs.Common.{sym, arith}
use Rattle.fields.proofs.Runs.{wide_length, narrow_length}
use Rattle.fields.proofs.packing.packed_len.Goals as goal

pub returns-then-q-gt-TWO_A_BYTE : goal.returns-then-q-gt-TWO_A_BYTE
returns-then-q-gt-TWO_A_BYTE c = record { value = sym (wide_length c.args.q c.args.n (omega arith)); bound = omega arith }

pub returns-else-q-gt-TWO_A_BYTE : goal.returns-else-q-gt-TWO_A_BYTE
returns-else-q-gt-TWO_A_BYTE c = let e = narrow_length c.args.q c.args.n (omega arith) in record { value = omega arith; bound = omega arith }
