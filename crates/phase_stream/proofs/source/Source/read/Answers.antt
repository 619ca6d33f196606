-- The file is open, and gave what the source gives.
use Rattle.std.proofs.Common.{subst}
use Rattle.std.specs.Prelude.{IfSome}
use Rattle.phase_stream.specs.Sources.{IsOpenFile}
use Rattle.phase_stream.proofs.source.Source.read.Goals as goal

pub returns-then-piece-clause-got : goal.returns-then-piece-clause-got
returns-then-piece-clause-got g c = λ values is.
    let known = g.F.Files.file c.args.files.now c.args.name.now in
    let source = c.in_ok-open.ensures.ok values is in
    let open_file = subst (λ file. IfSome file (IsOpenFile g.R.Read.remaining known values)) c.in-Some.is
    source.file in
    let gets = c.in_ok-piece.ensures.got known values open_file in
    record {
      few = gets.few;
      small = gets.small;
      last = gets.last;
      come = gets.come;
      sends = gets.sends;
      source_is = record {
        file = tt;
        unopened = λ e. absurd (cc (e, c.in_ok-open.ensures.opened));
      };
    }

pub returns-clause-got : goal.returns-clause-got
returns-clause-got g c = λ values is.
    let known = g.F.Files.file c.args.files.now c.args.name.now in
    let source = c.in_ok-open.ensures.ok values is in
    let open_file = subst (λ file. IfSome file (IsOpenFile g.R.Read.remaining known values)) c.in-Some.is
    source.file in
    let gets = c.in_ok-piece.ensures.got known values open_file in
    record {
      few = gets.few;
      small = gets.small;
      last = gets.last;
      come = gets.come;
      sends = gets.sends;
      source_is = record {
        file = gets.goes_on c.if-piece.false;
        unopened = λ e. absurd (cc (e, c.in_ok-open.ensures.opened));
      };
    }
