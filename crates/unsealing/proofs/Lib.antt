pub mod OpenedMessages
