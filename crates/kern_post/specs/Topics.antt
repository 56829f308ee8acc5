-- The types of messages (Jupyter messaging, "Messages on the shell (ROUTER/DEALER) channel" and
-- "Messages on the IOPub (PUB/SUB) channel").
use Rattle.std.specs.Prelude.{codes}
use Rattle.base_text.specs.Bytes.{Text}
use Rattle.kern_post.specs.declared.content.Content.{Content}
use Rattle.kern_post.specs.declared.content.Content.TheVariants as content
use Rattle.kern_post.specs.declared.content.RefusedRequest.{RefusedRequest}
use Rattle.kern_post.specs.declared.content.RefusedRequest.TheVariants as request

-- the error reply to a request whose content is bad
abbrev pub refused_topic : RefusedRequest → Text
refused_topic request.IsComplete = codes "is_complete_reply"
refused_topic request.Complete = codes "complete_reply"
refused_topic request.Shutdown = codes "shutdown_reply"

abbrev pub topic_of : Content → Text
topic_of (content.Status state) = codes "status"
topic_of (content.ExecuteInput code count) = codes "execute_input"
topic_of (content.Stream bytes) = codes "stream"
topic_of content.InputRequest = codes "input_request"
topic_of (content.Error cause) = codes "error"
topic_of (content.CommClose comm_id) = codes "comm_close"
topic_of (content.DebugEvent event) = codes "debug_event"
topic_of content.KernelInfoReply = codes "kernel_info_reply"
topic_of (content.ExecuteReply count ending) = codes "execute_reply"
topic_of (content.IsCompleteReply completeness) = codes "is_complete_reply"
topic_of (content.CompleteReply cursor_pos) = codes "complete_reply"
topic_of content.InspectReply = codes "inspect_reply"
topic_of content.HistoryReply = codes "history_reply"
topic_of content.CommInfoReply = codes "comm_info_reply"
topic_of (content.ShutdownReply restarts) = codes "shutdown_reply"
topic_of content.InterruptReply = codes "interrupt_reply"
topic_of (content.DebugReply response) = codes "debug_reply"
topic_of (content.BadContentReply request) = refused_topic request
