-- What a Resp and a Resp2 pay. Assumes nothing.
use Rattle.message.specs.Charges.{ResponsesPay}

pub responses_pay : ResponsesPay
responses_pay = record { resp = λ m e. rw e; resp2 = λ m e. rw e }
