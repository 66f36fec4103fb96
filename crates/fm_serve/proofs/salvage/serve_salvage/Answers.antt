use Rattle.fm_serve.proofs.salvage.serve_salvage.Goals as goal

pub returns : goal.returns
returns g c = record {
  read = c.read_and_answer.ensures.0;
  answered = c.read_and_answer.result.ending;
  output = c.read_and_answer.result.output.items;
  salvages = c.read_and_answer.ensures.1;
  went = c.send_out.ensures;
}
