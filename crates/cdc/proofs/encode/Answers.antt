-- `cdc::encode` meets its contract: each of the 44 places has its byte. Assumes nothing.
use Rattle.cdc.specs.Cdc.{encode_of}
use Rattle.cdc.proofs.Laws.{bytes_of16, bytes_of32}
use native.Mathlib.Omega.{arith}
use Rattle.cdc.proofs.encode.Goals as goal

pub returns : goal.returns
unfolding encode_of
returns c =
    let m = c.args.m in
    let s = bytes_of16 m.sequence _ (omega arith) c.to_be_bytes.ensures in
    let t = bytes_of32 m.token _ (omega arith) c.to_be_bytes-2.ensures in
    let pw = bytes_of16 m.producer.wrap _ (omega arith) c.to_be_bytes-3.ensures in
    let po = bytes_of32 m.producer.offset _ (omega arith) c.to_be_bytes-4.ensures in
    let cw = bytes_of16 m.consumer.wrap _ (omega arith) c.to_be_bytes-5.ensures in
    let co = bytes_of32 m.consumer.offset _ (omega arith) c.to_be_bytes-6.ensures in
    simp (c.copy_from_slice.ensures.after, c.copy_from_slice-2.ensures.after, c.copy_from_slice-3.ensures.after, c.copy_from_slice-4.ensures.after, c.copy_from_slice-5.ensures.after, c.copy_from_slice-6.ensures.after, s, t, pw, po, cw, co, c.high_byte.ensures, c.low_byte.ensures)
