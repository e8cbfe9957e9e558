mod OfferedValues
mod NamedValues
mod Answering
mod KnownValues
