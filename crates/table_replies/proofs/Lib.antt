pub mod FormReplies
mod TextSteps
