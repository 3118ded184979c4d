use Rattle.message.proofs.heads.measure_message.Goals as goal

pub returns : goal.returns
returns c = rw (c.measure_code.ensures, c.byte_at-op.ensures, c.byte_at-msgtype.ensures)
