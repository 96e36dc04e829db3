-- That the whole reply is the rules' reply.
pub mod Performed
