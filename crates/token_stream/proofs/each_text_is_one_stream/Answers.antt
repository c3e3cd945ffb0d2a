use Rattle.token_stream.proofs.each_text_is_one_stream.Goals as goal
use Rattle.token_stream.proofs.Streaming.{streams_are_one, stream_of_text}

pub returns : goal.returns
returns c = record { most = streams_are_one; least = stream_of_text }
