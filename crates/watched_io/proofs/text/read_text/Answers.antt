use Rattle.std.proofs.Common.{◌≡◌, ◌∙◌, ◌≤◌, ◌-◌, ◌++◌, inr, refl, length, length-append, take, arith}
use Rattle.std.proofs.lemmas.List.{length-take-le}
use Rattle.watched_io.proofs.Giving.{gives_none}
use Rattle.watched_io.specs.States.{reader_state}
use Rattle.watched_io.proofs.Reading.{gives_chunk, reads_all, reads_past, reads_within, take-written}
use Rattle.watched_io.proofs.text.read_text.Goals as goal

-- No byte is read.
pub reading-init : goal.reading-init
reading-init g c = record {
  chunk = c.in_ok-chunk.ensures.len;
  gives = rw c.new-text.ensures.items (gives_none (reader_state g.R.Read.remaining c.args.reader.now));
  short = rw c.new-text.ensures.items omega arith;
  kept = refl;
}

-- The reader is at its end.
pub returns-then-count-eq0-clause-ok : goal.returns-then-count-eq0-clause-ok
returns-then-count-eq0-clause-ok g c =
    let inv = c.reading.invariant in
    reads_all c.args.limit _ _ _ c.in_ok-count.count c.reading.text.items c.read.new.piece inv.gives inv.short c.if-count-eq0.true
    c.in_ok-count.ensures.bytes c.in_ok-count.ensures.counted (omega (arith, inv.chunk, c.read.auto.piece, c.as_mut_slice.ensures.len))

-- The chunk passes the limit.
pub returns-then-count-limit-clause-read : goal.returns-then-count-limit-clause-read
returns-then-count-limit-clause-read g c = λ _.
    let inv = c.reading.invariant in
    inr (reads_past c.args.limit _ _ _ c.in_ok-count.count c.reading.text.items c.read.new.piece inv.gives inv.short
    (omega (arith, c.if-count-limit.true, c.len.ensures, c.reading.text.ok.0)) c.in_ok-count.ensures.bytes.0 c.in_ok-count.ensures.counted
    c.in_ok-count.ensures.bound.0 (omega (arith, inv.chunk, c.read.auto.piece, c.as_mut_slice.ensures.len)))

-- The chunk is put behind the text.
pub reading-preserved : goal.reading-preserved
reading-preserved g c =
    let inv = c.reading.invariant in
    let same : take c.in_ok-count.count c.deref.result.now ≡ take c.in_ok-count.count c.read.new.piece =
    take-written _ c.reading.chunk.len c.read.new.piece _ _ c.deref.ensures.value (c.read.auto.piece ∙ c.as_mut_slice.ensures.len) in
    let items : c.extend_from_slice.new.self.items ≡ c.reading.text.items ++ take c.in_ok-count.count c.read.new.piece =
    rw (← same) c.in_ok-extend_from_slice.ensures.items in
    let room : c.in_ok-count.count ≤ c.args.limit - length c.reading.text.items = omega (arith, c.if-count-limit.false, c.len.ensures, c.reading.text.ok.0) in
    let bound = c.in_ok-count.ensures.bound.0 in
    let taken = length-take-le c.in_ok-count.count c.read.new.piece bound in
    let size = length-append c.reading.text.items (take c.in_ok-count.count c.read.new.piece) in
    let short = inv.short in
    record {
      chunk = inv.chunk;
      gives = rw items (gives_chunk _ _ _ c.in_ok-count.count c.reading.text.items c.read.new.piece inv.gives c.in_ok-count.ensures.bytes.0 c.in_ok-count.ensures.counted bound);
      short = rw items omega arith;
      kept = c.in_ok-count.ensures.same ∙ inv.kept;
    }

-- There was no memory for the chunk.
pub returns-in_err-extend_from_slice-clause-memory : goal.returns-in_err-extend_from_slice-clause-memory
returns-in_err-extend_from_slice-clause-memory g c = λ _.
    let inv = c.reading.invariant in
    let room : c.in_ok-count.count ≤ c.args.limit - length c.reading.text.items = omega (arith, c.if-count-limit.false, c.len.ensures, c.reading.text.ok.0) in (
      reads_within c.args.limit _ _ _ c.in_ok-count.count c.reading.text.items c.read.new.piece inv.gives inv.short room
          c.in_ok-count.ensures.bytes.0 c.in_ok-count.ensures.counted c.in_ok-count.ensures.bound.0,
      c.in_ok-count.ensures.same ∙ inv.kept,
    )
